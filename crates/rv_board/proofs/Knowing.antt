-- Which numbers a part knows, and the entries by them.
use Rattle.std.proofs.Common.{◌≡◌, ◌≢◌, ◌⊎◌, inl, inr, ℕ, ◌<◌, ◌≤◌, Bool, true, false, ◌||◌, List, [], ◌∷◌, ◌++◌, refl, ap, sym, ◌∙◌, arith, true≢false}
use Rattle.std.proofs.lemmas.Bool.Decides.{nat_tests}
use Rattle.std.proofs.lemmas.List.Elements.{filter-append}
use Rattle.rv_model.specs.declared.entry.Entry.{Entry}
use Rattle.rv_model.specs.Histories.{NoneOf}
use Rattle.rv_model.specs.Seats.{Seat, is_within, is_among, known_of, entries_of}
use Rattle.rv_board.specs.Known.{blank}
use Rattle.rv_board.specs.inner.Known.{known_by, knows, Begun}

-- what is not true is false
no : (b : Bool) → (b ≡ true → ⊥) → b ≡ false
no true f = absurd (f refl)
no false f = refl

-- the same, for other files
pub not_true : (b : Bool) → (b ≡ true → ⊥) → b ≡ false
not_true = no

-- of fewer numbers there are no entries either
pub none_of : (p q : ℕ → Bool) (xs : List Entry) → ((n : ℕ) → q n ≡ true → p n ≡ true) → entries_of p xs ≡ [] → entries_of q xs ≡ []
none_of p q [] within e = refl
none_of p q (x ∷ xs) within e = on (p x.seat) (q x.seat) refl refl (λ e'. none_of p q xs within e')
  where
    on : (a b : Bool) → p x.seat ≡ a → q x.seat ≡ b → (entries_of p xs ≡ [] → entries_of q xs ≡ []) → entries_of q (x ∷ xs) ≡ []
    on true b pa qb more = absurd (let f : entries_of p (x ∷ xs) ≡ [] = e in cc (rw pa at f))
    on false true pa qb more = absurd (true≢false (sym (within x.seat qb) ∙ pa))
    on false false pa qb more = rw qb (more (let f : entries_of p (x ∷ xs) ≡ [] = e in rw pa at f))

-- none in either list, none in both
pub none_append : (p : ℕ → Bool) (xs ys : List Entry) → entries_of p xs ≡ [] → entries_of p ys ≡ [] → entries_of p (xs ++ ys) ≡ []
none_append p xs ys e f = filter-append (λ (x : Entry). p x.seat) xs ys ∙ (ap (λ l. l ++ entries_of p ys) e ∙ f)

-- none in both, none in either
none_parts : (p : ℕ → Bool) (xs ys : List Entry) → entries_of p (xs ++ ys) ≡ [] → (entries_of p xs ≡ []) × (entries_of p ys ≡ [])
none_parts p xs ys e = parts (entries_of p xs) (entries_of p ys) (sym (filter-append (λ (x : Entry). p x.seat) xs ys) ∙ e)
  where
    parts : (a b : List Entry) → a ++ b ≡ [] → (a ≡ []) × (b ≡ [])
    parts [] b f = (refl, f)
    parts (x ∷ a) b f = absurd (cc)

-- none in the first
pub none_before : (p : ℕ → Bool) (xs ys : List Entry) → entries_of p (xs ++ ys) ≡ [] → entries_of p xs ≡ []
none_before p xs ys e = (none_parts p xs ys e).0

-- none in the second
pub none_after : (p : ℕ → Bool) (xs ys : List Entry) → entries_of p (xs ++ ys) ≡ [] → entries_of p ys ≡ []
none_after p xs ys e = (none_parts p xs ys e).1

-- of numbers that are known by one of two, where neither has an entry
pub none_either : (p q r : ℕ → Bool) (xs : List Entry) → ((n : ℕ) → r n ≡ true → (p n ≡ true) ⊎ (q n ≡ true)) → entries_of p xs ≡ [] → entries_of q xs ≡ [] → entries_of r xs ≡ []
none_either p q r xs split e f = none_of (λ n. p n || q n) r xs (λ n t. either_true (p n) (q n) (split n t)) (both xs e f)
  where
    either_true : (a b : Bool) → (a ≡ true) ⊎ (b ≡ true) → (a || b) ≡ true
    either_true true b t = refl
    either_true false b t = elim t [ inl h ↦ absurd (true≢false (sym h)) | inr h ↦ h ]

    both : (ys : List Entry) → entries_of p ys ≡ [] → entries_of q ys ≡ [] → entries_of (λ n. p n || q n) ys ≡ []
    both [] a b = refl
    both (y ∷ ys) a b = on (p y.seat) (q y.seat) refl refl (λ a' b'. both ys a' b')
      where
        on : (c d : Bool) → p y.seat ≡ c → q y.seat ≡ d → (entries_of p ys ≡ [] → entries_of q ys ≡ [] → entries_of (λ n. p n || q n) ys ≡ []) → entries_of (λ n. p n || q n) (y ∷ ys) ≡ []
        on true d pc qd more = absurd (let g : entries_of p (y ∷ ys) ≡ [] = a in cc (rw pc at g))
        on false true pc qd more = absurd (let g : entries_of q (y ∷ ys) ≡ [] = b in cc (rw qd at g))
        on false false pc qd more = rw (pc, qd) (more (let g : entries_of p (y ∷ ys) ≡ [] = a in rw pc at g) (let g : entries_of q (y ∷ ys) ≡ [] = b in rw qd at g))

-- the blank seat knows no number
pub knows_blank : (n : ℕ) → knows blank n ≡ true → ⊥
unfolding known_by is_within is_among
knows_blank n t = absurd (grind (arith, nat_tests))

-- so it has no entry
pub none_blank : (xs : List Entry) → entries_of (knows blank) xs ≡ []
none_blank [] = refl
none_blank (x ∷ xs) = rw (no (knows blank x.seat) (knows_blank x.seat)) (none_blank xs)

-- and it fits every history
pub begun_blank : (history : List Entry) → Begun history blank
begun_blank history = record { rest = history; whole = refl; none = none_blank history }

-- a seat knows its own number
pub knows_own : (number end : ℕ) (joined_in : List ℕ) → number < end → known_by number end joined_in number ≡ true
unfolding known_by is_within is_among
knows_own number end joined_in h = grind (arith, nat_tests)

-- the parts of a cut range
pub cut_left_within : (number at end : ℕ) (joined_in : List ℕ) (n : ℕ) → at ≤ end → known_by number at joined_in n ≡ true → known_by number end joined_in n ≡ true
unfolding known_by is_within is_among
cut_left_within number at end joined_in n h t = grind (arith, nat_tests)

-- the other side of the cut
pub cut_right_within : (number at end : ℕ) (joined_in : List ℕ) (n : ℕ) → number ≤ at → known_by at end [] n ≡ true → known_by number end joined_in n ≡ true
unfolding known_by is_within is_among
cut_right_within number at end joined_in n h t = grind (arith, nat_tests)

-- a seat whose number is known has no entry either
pub none_is : (p : ℕ → Bool) (seat : ℕ) (xs : List Entry) → p seat ≡ true → entries_of p xs ≡ [] → NoneOf seat xs
none_is p seat [] own e = tt
none_is p seat (x ∷ xs) own e = on (p x.seat) refl (λ e'. none_is p seat xs own e')
  where
    on : (b : Bool) → p x.seat ≡ b → (entries_of p xs ≡ [] → NoneOf seat xs) → NoneOf seat (x ∷ xs)
    on true px more = absurd (let f : entries_of p (x ∷ xs) ≡ [] = e in cc (rw px at f))
    on false px more =
        let other : x.seat ≢ seat = λ same. true≢false (sym own ∙ sym (ap p same) ∙ px) in
        (grind (arith, nat_tests), more (let f : entries_of p (x ∷ xs) ≡ [] = e in rw px at f))

-- a number with no entry in either list
pub none_append_is : (seat : ℕ) (xs ys : List Entry) → NoneOf seat xs → NoneOf seat ys → NoneOf seat (xs ++ ys)
none_append_is seat [] ys a b = b
none_append_is seat (x ∷ xs) ys a b = (a.0, none_append_is seat xs ys a.1 b)

-- what the shared definition says that a seat knows
pub known_is : (p : Seat) → known_of p ≡ knows p
unfolding known_of known_by
known_is p = refl
