-- How many entries a history has: by each number, and of those that a slot counts.
use Rattle.std.proofs.Common.{◌≡◌, ◌≢◌, ℕ, zero, suc, ◌+◌, ◌*◌, ◌^◌, ◌<◌, ◌≤◌, ◌==◌, nat_lt, Bool, true, false, ◌&&◌, not, List, [], ◌∷◌, ◌++◌, length, refl, sym, ap, ◌∙◌, subst, arith, length-append, true≢false, if◌then◌else◌}
use Rattle.std.specs.Prelude.{filter}
use Rattle.std.proofs.lemmas.Bool.Decides.{nat_tests}
use Rattle.std.proofs.lemmas.List.Elements.{filter-append}
use Rattle.rv_model.specs.declared.entry.Act.{Act}
use Rattle.rv_model.specs.declared.entry.Act.TheVariants.{Deliver, Stop, Look, Raise, Lower, Clear, End}
use Rattle.rv_model.specs.declared.entry.Entry.{Entry}
use Rattle.rv_model.specs.Setups.{Setup}
use Rattle.rv_model.specs.Judging.{Judge}
use Rattle.rv_model.specs.Histories.{IsSound, changed, is_on}
use Rattle.rv_model.specs.Seats.{entries_of}
use Rattle.rv_core.specs.Setup.{word_index}
use Rattle.rv_journal.specs.CountedWords.{is_deliver, counts, count_on, entries_by, most_entries}

-- how many pass a test, with one entry more
passed : (p : Entry → Bool) (history : List Entry) (e : Entry) → length (filter p (history ++ e ∷ [])) ≡ length (filter p history) + (if p e then 1 else 0)
passed p history e = ap length (filter-append p history (e ∷ [])) ∙ (length-append (filter p history) (filter p (e ∷ [])) ∙ on (p e) refl)
  where
    on : (b : Bool) → p e ≡ b → length (filter p history) + length (filter p (e ∷ [])) ≡ length (filter p history) + (if p e then 1 else 0)
    on true is = rw is refl
    on false is = rw is refl

-- no more than there are
passed-le : (p : Entry → Bool) (history : List Entry) → length (filter p history) ≤ length history
passed-le p [] = omega arith
passed-le p (e ∷ history) = on (p e) refl (passed-le p history)
  where
    on : (b : Bool) → p e ≡ b → length (filter p history) ≤ length history → length (filter p (e ∷ history)) ≤ length (e ∷ history)
    on true is less = rw is (omega arith)
    on false is less = rw is (omega arith)

-- ---- by a slot

-- one entry more
pub count-snoc : (slot : ℕ) (history : List Entry) (e : Entry) → count_on slot (history ++ e ∷ []) ≡ count_on slot history + (if counts slot e then 1 else 0)
count-snoc slot history e = passed (counts slot) history e

-- an act on another word is not on the slot
not-on : (slot : ℕ) (act : Act) → word_index act ≢ suc slot → is_on slot act ≡ false
not-on slot (Deliver other hit) ne = grind (arith, nat_tests)
not-on slot (Stop other) ne = grind (arith, nat_tests)
not-on slot (Clear other) ne = grind (arith, nat_tests)
not-on slot (End other) ne = grind (arith, nat_tests)
not-on slot Look ne = refl
not-on slot (Raise bits) ne = refl
not-on slot (Lower bits) ne = refl

-- what is on another word is not counted
pub counts-other : (slot : ℕ) (e : Entry) → word_index e.act ≢ suc slot → counts slot e ≡ false
counts-other slot e ne = on (is_deliver e.act) (is_on slot e.act) (not-on slot e.act ne)
  where
    on : (a b : Bool) → b ≡ false → (a && (b && not (e.before == e.after))) ≡ false
    on true true is = absurd (true≢false is)
    on true false is = refl
    on false b is = refl

-- nor is what delivers nothing
pub counts-calm : (slot : ℕ) (e : Entry) → is_deliver e.act ≡ false → counts slot e ≡ false
counts-calm slot e is = rw is refl

-- a delivery on the slot is counted where its words differ
pub counts-deliver : (slot : ℕ) (e : Entry) → is_deliver e.act ≡ true → is_on slot e.act ≡ true → counts slot e ≡ not (e.before == e.after)
counts-deliver slot e delivers here = rw (delivers, here) refl

-- where the count has grown, an entry changed the slot
pub counted-changes : (slot : ℕ) (more : List Entry) → 0 < count_on slot more → 1 ≤ length (filter (changed slot) more)
counted-changes slot [] some = absurd (omega arith)
counted-changes slot (e ∷ more) some = on (changed slot e) refl (is_deliver e.act) refl (λ less. counted-changes slot more less)
  where
    on : (a : Bool) → changed slot e ≡ a → (b : Bool) → is_deliver e.act ≡ b → (0 < count_on slot more → 1 ≤ length (filter (changed slot) more)) → 1 ≤ length (filter (changed slot) (e ∷ more))
    on true is b d rest = rw is (omega arith)
    on false is true d rest = let none : counts slot e ≡ false = rw (d, is) refl in let left : 0 < count_on slot more = (rw none at some) in rw is (rest left)
    on false is false d rest = let none : counts slot e ≡ false = rw d refl in let left : 0 < count_on slot more = (rw none at some) in rw is (rest left)

-- of two lists, one after the other
pub count-append : (slot : ℕ) (xs ys : List Entry) → count_on slot (xs ++ ys) ≡ count_on slot xs + count_on slot ys
count-append slot xs ys = ap length (filter-append (counts slot) xs ys) ∙ length-append (filter (counts slot) xs) (filter (counts slot) ys)

-- ---- by numbers

-- one entry more
pub by-snoc : (n : ℕ) (history : List Entry) (e : Entry) → entries_by n (history ++ e ∷ []) ≡ entries_by n history + (if e.seat == n then 1 else 0)
by-snoc n history e = passed (λ (x : Entry). x.seat == n) history e

-- of two lists, one after the other
pub by-append : (n : ℕ) (xs ys : List Entry) → entries_by n (xs ++ ys) ≡ entries_by n xs + entries_by n ys
by-append n xs ys = ap length (filter-append (λ (x : Entry). x.seat == n) xs ys) ∙ length-append (entries_of (λ m. m == n) xs) (entries_of (λ m. m == n) ys)

-- entries of numbers below one more
below_more : (k : ℕ) (history : List Entry) → length (entries_of (λ n. nat_lt n (suc k)) history) ≡ length (entries_of (λ n. nat_lt n k) history) + entries_by k history
below_more k [] = refl
below_more k (e ∷ es) = on (nat_lt e.seat k) (e.seat == k) refl refl (below_more k es)
  where
    on : (a b : Bool) → nat_lt e.seat k ≡ a → (e.seat == k) ≡ b → length (entries_of (λ n. nat_lt n (suc k)) es) ≡ length (entries_of (λ n. nat_lt n k) es) + entries_by k es
        → length (entries_of (λ n. nat_lt n (suc k)) (e ∷ es)) ≡ length (entries_of (λ n. nat_lt n k) (e ∷ es)) + entries_by k (e ∷ es)
    on true true p q more = absurd (grind (arith, nat_tests))
    on true false p q more = let s : nat_lt e.seat (suc k) ≡ true = grind (arith, nat_tests) in rw (s, p, q) (omega (arith, more))
    on false true p q more = let s : nat_lt e.seat (suc k) ≡ true = grind (arith, nat_tests) in rw (s, p, q) (omega (arith, more))
    on false false p q more = let s : nat_lt e.seat (suc k) ≡ false = grind (arith, nat_tests) in rw (s, p, q) more

-- no number is below 0
below_none : (history : List Entry) → length (entries_of (λ n. nat_lt n 0) history) ≡ 0
below_none [] = refl
below_none (e ∷ es) = let s : nat_lt e.seat 0 ≡ false = grind (arith, nat_tests) in rw s (below_none es)

-- numbers below k have k times as many as each
below_few : (k c : ℕ) (history : List Entry) → ((n : ℕ) → entries_by n history ≤ c) → length (entries_of (λ n. nat_lt n k) history) ≤ k * c
below_few zero c history few = omega (arith, below_none history)
below_few (suc k) c history few = omega (arith, below_more k history, below_few k c history few, few k)

-- where all numbers are below k, that is all
all_below : (k : ℕ) (history : List Entry) → ((a : List Entry) (e : Entry) (b : List Entry) → history ≡ a ++ e ∷ b → e.seat < k) → length (entries_of (λ n. nat_lt n k) history) ≡ length history
all_below k [] held = refl
all_below k (e ∷ es) held =
    let small : e.seat < k = held [] e es refl in
    let s : nat_lt e.seat k ≡ true = grind (arith, nat_tests) in
    rw s (ap suc (all_below k es (λ a x b is. held (e ∷ a) x b (ap (λ l. e ∷ l) is))))

-- no history is so long that a count would not fit
pub few-entries : (k : Setup) (js : List Judge) (history : List Entry) → IsSound k js history → ((n : ℕ) → entries_by n history ≤ most_entries) → length history ≤ 268000000
few-entries k js history sound few =
    let all = all_below 67 history (λ a e b is. (sound.permitted a e b is).0) in
    let some_more = below_few 67 most_entries history few in
    omega arith

-- so every count fits, and may grow by one
pub count-fits : (k : Setup) (js : List Judge) (history : List Entry) (slot : ℕ) → IsSound k js history → ((n : ℕ) → entries_by n history ≤ most_entries) → count_on slot history + 1 < 2 ^ 32
count-fits k js history slot sound few = omega (arith, few-entries k js history sound few, passed-le (counts slot) history)

-- a number that has room makes one entry more
pub few-snoc : (history : List Entry) (e : Entry) → entries_by e.seat history < most_entries → ((n : ℕ) → entries_by n history ≤ most_entries) → (n : ℕ) → entries_by n (history ++ e ∷ []) ≤ most_entries
few-snoc history e room few n = on (e.seat == n) refl
  where
    on : (b : Bool) → (e.seat == n) ≡ b → entries_by n (history ++ e ∷ []) ≤ most_entries
    on true is =
        let same : n ≡ e.seat = grind (arith, nat_tests) in
        let one : entries_by n (history ++ e ∷ []) ≡ entries_by n history + 1 = rw is at (by-snoc n history e) in
        let was : entries_by n history < most_entries = subst (λ (z : ℕ). entries_by z history < most_entries) (sym same) room in omega arith
    on false is = let none : entries_by n (history ++ e ∷ []) ≡ entries_by n history + 0 = rw is at (by-snoc n history e) in let was = few n in omega arith

-- where a range of numbers has no entry, none of them has one
pub by-none : (known : ℕ → Bool) (n : ℕ) (history : List Entry) → known n ≡ true → entries_of known history ≡ [] → entries_by n history ≡ 0
by-none known n [] is none = refl
by-none known n (e ∷ es) is none = on (known e.seat) (e.seat == n) refl refl (λ rest. by-none known n es is rest)
  where
    on : (a b : Bool) → known e.seat ≡ a → (e.seat == n) ≡ b → (entries_of known es ≡ [] → entries_by n es ≡ 0) → entries_by n (e ∷ es) ≡ 0
    on true b p q rest = absurd (let f : entries_of known (e ∷ es) ≡ [] = none in cc (rw p at f))
    on false true p q rest = let same : e.seat ≡ n = grind (arith, nat_tests) in absurd (cc (sym p ∙ ap known same ∙ is))
    on false false p q rest = let left : entries_of known es ≡ [] = (let f : entries_of known (e ∷ es) ≡ [] = none in rw p at f) in rw q (rest left)
