-- Sets of parts as numbers.
use Rattle.std.proofs.Common.{◌≡◌, ℕ, zero, suc, ◌^◌, ◌<◌, ◌≤◌, Bool, true, false, not, ◌&&◌, ◌||◌, List, [], ◌∷◌, map, refl, sym, ap, ◌∙◌, ⊎_elim, arith, bit_or}
use mathlib.Core.Path.{ap₂}
use Rattle.std.specs.List.{list_any}
use Rattle.std.proofs.lemmas.Bool.{cases_eq}
use Rattle.std.proofs.lemmas.List.Folds.{list_any-append}
use Rattle.rv_model.specs.Numbers.{has_bit}
use Rattle.rv_model.proofs.SetLemmas.{has_or, has_none, has_same, has_other}
use Rattle.rv_tableau.specs.declared.pairs.Pair.{Pair}
use Rattle.rv_tableau.specs.Pairs.{empty_pair, join, unions, and_later, later_alone}
use Rattle.rv_tableau.specs.Holding.{all_below}

-- ---- tests

-- four tests in another order
pub and_assoc4 : (a b c d : Bool) → ((a && b) && (c && d)) ≡ ((a && c) && (b && d))
and_assoc4 a b c d = grind arith

-- a test that one of two asks for
guard_or : (s t p : Bool) → (not (s || t) || p) ≡ ((not s || p) && (not t || p))
guard_or s t p = grind arith

-- a test and true
pub and_true : (a : Bool) → (a && true) ≡ a
and_true a = grind arith

-- a test or false
pub or_false : (a : Bool) → (a || false) ≡ a
or_false a = grind arith

-- both spread over one of two
and_or : (a b c : Bool) → (a && (b || c)) ≡ ((a && b) || (a && c))
and_or a b c = grind arith

-- from the right
or_and : (a b c : Bool) → ((a || b) && c) ≡ ((a && c) || (b && c))
or_and a b c = grind arith

-- ---- members

-- each member of a union passes exactly where each of both does
pub all_or : (n s t : ℕ) (p : ℕ → Bool) → all_below n (bit_or s t) p ≡ (all_below n s p && all_below n t p)
all_or zero s t p = refl
all_or (suc n) s t p =
    ap₂ (λ a b. a && b) (all_or n s t p) (ap (λ b. not b || p n) (has_or s t n) ∙ guard_or (has_bit s n) (has_bit t n) (p n))
    ∙ and_assoc4 (all_below n s p) (all_below n t p) (not (has_bit s n) || p n) (not (has_bit t n) || p n)

-- all members of the empty set pass
pub all_none : (n : ℕ) (p : ℕ → Bool) → all_below n 0 p ≡ true
all_none zero p = refl
all_none (suc n) p = ap₂ (λ a b. a && (not b || p n)) (all_none n p) (has_none n)

-- a member past the bound is not asked
all_past : (n k : ℕ) (p : ℕ → Bool) → n ≤ k → all_below n (2 ^ k) p ≡ true
all_past zero k p h = refl
all_past (suc n) k p h = ap₂ (λ a b. a && (not b || p n)) (all_past n k p (omega arith)) (has_other k n (λ e. omega arith))

-- a set of one below one more number
one_step : (n k : ℕ) (p : ℕ → Bool) → (k < n → all_below n (2 ^ k) p ≡ p k) → k < suc n → all_below (suc n) (2 ^ k) p ≡ p k
one_step n k p ih h = ⊎_elim last before (cases_eq n k)
  where
    last : n ≡ k → all_below (suc n) (2 ^ k) p ≡ p k
    last e = ap₂ (λ a b. a && (not b || p n)) (all_past n k p (omega arith)) (ap (has_bit (2 ^ k)) e ∙ has_same k) ∙ ap p e

    before : (n ≡ k → ⊥) → all_below (suc n) (2 ^ k) p ≡ p k
    before e = ap₂ (λ a b. a && (not b || p n)) (ih (omega arith)) (has_other k n e) ∙ and_true (p k)

-- the member of a set of one passes exactly where it does
pub all_one : (n k : ℕ) (p : ℕ → Bool) → k < n → all_below n (2 ^ k) p ≡ p k
all_one zero k p h = absurd (omega arith)
all_one (suc n) k p h = one_step n k p (all_one n k p) h

-- ---- pairs

-- a test of pairs that holds of a union exactly where it holds of both
pub record Splits (f : Pair → Bool) : Type 0 where
  pub none : f empty_pair ≡ true
  pub both : (p q : Pair) → f (join p q) ≡ (f p && f q)

-- a pair joined to each
any_joined : (f : Pair → Bool) → Splits f → (p : Pair) (qs : List Pair) → list_any f (map (join p) qs) ≡ (f p && list_any f qs)
any_joined f s p [] = sym (and_false (f p))
  where
    and_false : (a : Bool) → (a && false) ≡ false
    and_false true = refl
    and_false false = refl
any_joined f s p (q ∷ qs) = ap₂ (λ a b. a || b) (s.both p q) (any_joined f s p qs) ∙ sym (and_or (f p) (f q) (list_any f qs))

-- some union passes exactly where some of each does
pub any_unions : (f : Pair → Bool) → Splits f → (ps qs : List Pair) → list_any f (unions ps qs) ≡ (list_any f ps && list_any f qs)
any_unions f s [] qs = refl
any_unions f s (p ∷ ps) qs =
    list_any-append f (map (join p) qs) (unions ps qs)
    ∙ ap₂ (λ a b. a || b) (any_joined f s p qs) (any_unions f s ps qs)
    ∙ sym (or_and (f p) (list_any f ps) (list_any f qs))

-- the pairs with one more part to hold later
pub any_later : (f : Pair → Bool) → Splits f → (k : ℕ) (ps : List Pair) → list_any f (and_later k ps) ≡ (f (later_alone k) && list_any f ps)
any_later f s k ps = any_joined f s (later_alone k) ps
