-- Which numbers a seat knows after a cut and after a join.
use Rattle.std.proofs.Common.{◌≡◌, ◌≢◌, ◌⊎◌, inl, inr, ⊎_elim, ℕ, zero, suc, ◌+◌, ◌-◌, ◌<◌, ◌≤◌, ◌==◌, Bool, true, false, ◌||◌, List, [], ◌++◌, refl, sym, ◌∙◌, arith, true≢false}
use Rattle.std.specs.List.{list_any}
use Rattle.std.proofs.lemmas.Bool.Decides.{nat_tests}
use Rattle.std.proofs.lemmas.List.Folds.{list_any-append}
use Rattle.rv_model.specs.Seats.{Seat, is_within, is_among}
use Rattle.rv_board.specs.declared.view.View.{View}
use Rattle.rv_board.specs.Known.{count_from, numbers}
use Rattle.rv_board.specs.inner.Known.{known_by, knows}
use Rattle.rv_board.specs.Rule.{joined}

-- no number is among none
pub none_among : (n : ℕ) → is_among [] n ≡ false
unfolding is_among
none_among n = refl

-- what is below the cut is in the whole range
pub range_left : (number at end : ℕ) (n : ℕ) → at ≤ end → is_within number at n ≡ true → is_within number end n ≡ true
unfolding is_within
range_left number at end n h t = grind (arith, nat_tests)

-- so is what is above
pub range_right : (number at end : ℕ) (n : ℕ) → number ≤ at → is_within at end n ≡ true → is_within number end n ≡ true
unfolding is_within
range_right number at end n h t = grind (arith, nat_tests)

-- nothing is on both sides
is_within_apart : (number at end n : ℕ) → is_within number at n ≡ true → is_within at end n ≡ true → ⊥
unfolding is_within
is_within_apart number at end n s t = absurd (grind (arith, nat_tests))

-- a known number is in the range or was joined in
known_cases : (number end : ℕ) (joined_in : List ℕ) (n : ℕ) → known_by number end joined_in n ≡ true → (is_within number end n ≡ true) ⊎ (is_among joined_in n ≡ true)
unfolding known_by
known_cases number end joined_in n t = cases (is_within number end n) (is_among joined_in n) t
  where
    cases : (a b : Bool) → (a || b) ≡ true → (a ≡ true) ⊎ (b ≡ true)
    cases true b e = inl refl
    cases false b e = inr e

-- what is in the range is known
pub in_range : (number end : ℕ) (joined_in : List ℕ) (n : ℕ) → is_within number end n ≡ true → known_by number end joined_in n ≡ true
unfolding known_by
in_range number end joined_in n t = rw t refl

-- what was joined in is known
in_gone : (number end : ℕ) (joined_in : List ℕ) (n : ℕ) → is_among joined_in n ≡ true → known_by number end joined_in n ≡ true
unfolding known_by
in_gone number end joined_in n t = cases (is_within number end n) (is_among joined_in n) t
  where
    cases : (a b : Bool) → b ≡ true → (a || b) ≡ true
    cases true b e = refl
    cases false b e = e

-- of a seat that took in none only the range is known
known_right : (at end n : ℕ) → known_by at end [] n ≡ true → is_within at end n ≡ true
known_right at end n t = ⊎_elim (λ h. h) (λ h. absurd (true≢false (sym h ∙ none_among n))) (known_cases at end [] n t)

-- the two sides of a cut know no number in common
pub cut_apart : (number at end : ℕ) (joined_in : List ℕ) (n : ℕ) → number ≤ at → ((m : ℕ) → is_within number end m ≡ true → is_among joined_in m ≡ false) → known_by number at joined_in n ≡ true → known_by at end [] n ≡ true → ⊥
cut_apart number at end joined_in n le distinct s t =
    let r : is_within at end n ≡ true = known_right at end n t in
    ⊎_elim (λ h. is_within_apart number at end n h r) (λ h. true≢false (sym h ∙ distinct n (range_right number at end n le r))) (known_cases number at joined_in n s)

-- what is counted from a number on is in range
counted : (a c n : ℕ) → list_any (λ m. m == n) (count_from a c) ≡ true → (a ≤ n) × (n < a + c)
counted a zero n t = absurd (true≢false (sym t))
counted a (suc c) n t = on (a == n) refl (λ t'. counted (suc a) c n t')
  where
    on : (b : Bool) → (a == n) ≡ b → (list_any (λ m. m == n) (count_from (suc a) c) ≡ true → (suc a ≤ n) × (n < suc a + c)) → (a ≤ n) × (n < a + suc c)
    on true is more = let same : a ≡ n = grind (arith, nat_tests) in (omega arith, omega arith)
    on false is more = let m = more (let t' : ((a == n) || list_any (λ m. m == n) (count_from (suc a) c)) ≡ true = t in rw is at t') in (omega (arith, m.0), omega (arith, m.1))

-- what is in range is counted
counts : (a c n : ℕ) → a ≤ n → n < a + c → list_any (λ m. m == n) (count_from a c) ≡ true
counts a zero n l h = absurd (omega arith)
counts a (suc c) n l h = on (a == n) refl (λ l' h'. counts (suc a) c n l' h')
  where
    on : (b : Bool) → (a == n) ≡ b → (suc a ≤ n → n < suc a + c → list_any (λ m. m == n) (count_from (suc a) c) ≡ true) → list_any (λ m. m == n) (count_from a (suc c)) ≡ true
    on true is more = rw is refl
    on false is more = let ne : a ≢ n = grind (arith, nat_tests) in rw is (more (omega arith) (omega arith))

-- one of two
pub or_cases : (a b : Bool) → (a || b) ≡ true → (a ≡ true) ⊎ (b ≡ true)
or_cases true b e = inl refl
or_cases false b e = inr e

-- the first of two
or_left : (a b : Bool) → a ≡ true → (a || b) ≡ true
or_left true b e = refl
or_left false b e = absurd (true≢false (sym e))

-- the second of two
or_right : (a b : Bool) → b ≡ true → (a || b) ≡ true
or_right true b e = refl
or_right false b e = e

-- among two lists
pub among_append : (xs ys : List ℕ) (n : ℕ) → is_among (xs ++ ys) n ≡ (is_among xs n || is_among ys n)
unfolding is_among
among_append xs ys n = list_any-append (λ (m : ℕ). m == n) xs ys

-- the list of a range has its numbers alone
among_range : (number end n : ℕ) → is_among (count_from number (end - number)) n ≡ true → is_within number end n ≡ true
unfolding is_among is_within
among_range number end n t = let m = counted number (end - number) n t in let a : number ≤ n = m.0 in let b : n < end = omega (arith, m.1) in grind (arith, nat_tests)

-- and all of them
range_among : (number end n : ℕ) → is_within number end n ≡ true → is_among (count_from number (end - number)) n ≡ true
unfolding is_among is_within
range_among number end n t = let a : number ≤ n = grind (arith, nat_tests) in let b : n < end = grind (arith, nat_tests) in counts number (end - number) n a (omega arith)

-- the numbers of a part are those that it knows
pub numbers_known : (p : Seat) (n : ℕ) → is_among (numbers p) n ≡ true → knows p n ≡ true
numbers_known p n t = ⊎_elim (λ h. in_range p.number p.end p.joined_in n (among_range p.number p.end n h)) (λ h. in_gone p.number p.end p.joined_in n h)
    (or_cases (is_among (count_from p.number (p.end - p.number)) n) (is_among p.joined_in n) (sym (among_append (count_from p.number (p.end - p.number)) p.joined_in n) ∙ t))

-- all that a seat knows is in the list of its numbers
known_numbers : (p : Seat) (n : ℕ) → knows p n ≡ true → is_among (numbers p) n ≡ true
known_numbers p n t = among_append (count_from p.number (p.end - p.number)) p.joined_in n ∙
    ⊎_elim (λ h. or_left (is_among (count_from p.number (p.end - p.number)) n) (is_among p.joined_in n) (range_among p.number p.end n h)) (λ h. or_right (is_among (count_from p.number (p.end - p.number)) n) (is_among p.joined_in n) h) (known_cases p.number p.end p.joined_in n t)

-- what is known after a join was known to one of the two
pub joined_cases : (v w : View) (n : ℕ) → knows (joined v w).part n ≡ true → (knows v.part n ≡ true) ⊎ (knows w.part n ≡ true)
joined_cases v w n t = ⊎_elim
    (λ h. inl (in_range v.part.number v.part.end v.part.joined_in n h))
    (λ h. ⊎_elim (λ a. inl (in_gone v.part.number v.part.end v.part.joined_in n a)) (λ a. inr (numbers_known w.part n a)) (or_cases (is_among v.part.joined_in n) (is_among (numbers w.part) n) (sym (among_append v.part.joined_in (numbers w.part) n) ∙ h)))
    (known_cases v.part.number v.part.end (v.part.joined_in ++ numbers w.part) n t)

-- what the first knew is known
pub joined_left : (v w : View) (n : ℕ) → knows v.part n ≡ true → knows (joined v w).part n ≡ true
joined_left v w n t = let all : List ℕ = v.part.joined_in ++ numbers w.part in ⊎_elim
    (λ h. in_range v.part.number v.part.end all n h)
    (λ h. in_gone v.part.number v.part.end all n (among_append v.part.joined_in (numbers w.part) n ∙ or_left (is_among v.part.joined_in n) (is_among (numbers w.part) n) h))
    (known_cases v.part.number v.part.end v.part.joined_in n t)

-- what the second knew is known
pub joined_right : (v w : View) (n : ℕ) → knows w.part n ≡ true → knows (joined v w).part n ≡ true
joined_right v w n t = in_gone v.part.number v.part.end (v.part.joined_in ++ numbers w.part) n (among_append v.part.joined_in (numbers w.part) n ∙ or_right (is_among v.part.joined_in n) (is_among (numbers w.part) n) (known_numbers w.part n t))
