-- Pairs in lists, by the test of equality.
use Rattle.std.proofs.Common.{◌≡◌, ℕ, zero, suc, ◌<◌, Bool, true, List, [], ◌∷◌, ◌++◌, ◌||◌, length, get_or, refl, sym, ap, ◌∙◌, ⊎_elim, arith}
use mathlib.Core.Path.{ap₂}
use Rattle.std.specs.List.{list_any}
use Rattle.std.proofs.lemmas.List.Folds.{list_any-append}
use Rattle.std.proofs.lemmas.Bool.{false≢true, or_cases, and_parts, and_from, or_left, or_right, eqb-true, eq-eqb}
use Rattle.rv_tableau.specs.declared.pairs.Pair.{Pair}
use Rattle.rv_tableau.specs.Pairs.{empty_pair, same_pair, is_one_of}

-- pairs that pass the test are one
pub same_pair-true : (p q : Pair) → same_pair p q ≡ true → p ≡ q
same_pair-true p q h = ap₂ (λ a b. let r : Pair = record { labels = a; next = b } in r) (eqb-true p.labels q.labels (and_parts _ _ h).0) (eqb-true p.next q.next (and_parts _ _ h).1)

-- a pair passes the test with itself
pub same_pair-refl : (p : Pair) → same_pair p p ≡ true
same_pair-refl p = and_from _ _ (eq-eqb p.labels p.labels refl) (eq-eqb p.next p.next refl)

-- where a test holds of some pair of the list, there is one that passes it
pub any_witness : (f : Pair → Bool) (xs : List Pair) → list_any f xs ≡ true → (p : Pair) × (f p ≡ true) × (is_one_of p xs ≡ true)
any_witness f [] h = absurd (false≢true h)
any_witness f (x ∷ xs) h = ⊎_elim (λ e. (x, e, or_left _ _ (same_pair-refl x))) (λ e. let r = any_witness f xs e in (r.0, r.1, or_right _ _ r.2)) (or_cases _ _ h)

-- and the other way round
pub any_from : (f : Pair → Bool) (xs : List Pair) (p : Pair) → is_one_of p xs ≡ true → f p ≡ true → list_any f xs ≡ true
any_from f [] p h e = absurd (false≢true h)
any_from f (x ∷ xs) p h e = ⊎_elim (λ s. or_left _ _ (ap f (sym (same_pair-true p x s)) ∙ e)) (λ s. or_right _ _ (any_from f xs p s e)) (or_cases _ _ h)

-- a pair that is in the list has a place
pub in_index : (p : Pair) (xs : List Pair) → is_one_of p xs ≡ true → (k : ℕ) × (k < length xs) × (get_or xs k empty_pair ≡ p)
in_index p [] h = absurd (false≢true h)
in_index p (x ∷ xs) h = ⊎_elim (λ s. (zero, omega arith, sym (same_pair-true p x s))) (λ s. let r = in_index p xs s in (suc r.0, omega (arith, r.1), r.2)) (or_cases _ _ h)

-- what stands at a place is in the list
pub get_in : (xs : List Pair) (k : ℕ) → k < length xs → is_one_of (get_or xs k empty_pair) xs ≡ true
get_in [] k h = absurd (omega arith)
get_in (x ∷ xs) zero h = or_left _ _ (same_pair-refl x)
get_in (x ∷ xs) (suc k) h = or_right _ _ (get_in xs k (omega arith))

-- in a list that goes on
pub in_append : (p : Pair) (xs ys : List Pair) → is_one_of p (xs ++ ys) ≡ (is_one_of p xs || is_one_of p ys)
in_append p xs ys = list_any-append (same_pair p) xs ys
