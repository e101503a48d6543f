-- What the denial of each operator says, in both views.
use Rattle.std.proofs.Common.{◌≡◌, ℕ, Bool, true, false, not, ◌&&◌, ◌||◌, List, [], ◌∷◌, refl, arith, sym, ap, ◌∙◌}
use mathlib.Core.Path.{fun_ext}
use Rattle.rv_model.specs.Ltl.{False}
use Rattle.rv_model.specs.Truth.{View, Weak, Strong, other}
use Rattle.rv_model.specs.Meaning.{Meaning, is_weak, true_m, not_m, and_m, or_m, next_m, until_m, release_m, meaning}

-- ---- tests

-- a test denied twice
not_not : (b : Bool) → not (not b) ≡ b
not_not true = refl
not_not false = refl

-- the denial of both
not_and : (a b : Bool) → not (a && b) ≡ (not a || not b)
not_and true b = refl
not_and false b = refl

-- the denial of one of two
not_or : (a b : Bool) → not (a || b) ≡ (not a && not b)
not_or true b = refl
not_or false b = refl

-- a implies b
abbrev pub Le : Bool → Bool → Type 0
Le a b = a ≡ true → b ≡ true

-- the denial of an equivalence, where the strong truths s are weak truths w; the first pair of the two views is the one asked
not_same_weak : (a b sa sb : Bool) → Le sa a → Le sb b → not ((sa && sb) || (not a && not b)) ≡ ((a && not sb) || (not sa && b))
not_same_weak a b sa sb h k = grind (arith, h, k)

-- the same where the weak truths are the wider ones
not_same_strong : (a b aw bw : Bool) → Le a aw → Le b bw → not ((aw && bw) || (not a && not b)) ≡ ((a && not bw) || (not aw && b))
not_same_strong a b aw bw h k = grind (arith, h, k)

-- ---- meanings

-- the other view of the other view
other_other : (v : View) → other (other v) ≡ v
other_other Weak = refl
other_other Strong = refl

-- on no letters one view denies the other
not_weak : (v : View) → not (is_weak (other v)) ≡ is_weak v
not_weak Weak = refl
not_weak Strong = refl

-- two meanings are one where they agree in each view on all letters
pub same : (p q : Meaning) → ((v : View) (w : List ℕ) → p v w ≡ q v w) → p ≡ q
same p q h = fun_ext (λ v. fun_ext (h v))

-- on the empty word, weakly alone
abbrev pub Proper : Meaning → Type 0
Proper p = (v : View) → p v [] ≡ is_weak v

-- what is so strongly is so weakly
abbrev pub Narrow : Meaning → Type 0
Narrow p = (w : List ℕ) → Le (p Strong w) (p Weak w)

-- two meanings are one where they agree on no letters, and on a first letter and the rest
same_from : (p q : Meaning) → ((v : View) → p v [] ≡ q v []) → ((v : View) (x : ℕ) (t : List ℕ) → p v (x ∷ t) ≡ q v (x ∷ t)) → p ≡ q
same_from p q none some = same p q at
  where
    at : (v : View) (w : List ℕ) → p v w ≡ q v w
    at v [] = none v
    at v (x ∷ t) = some v x t

-- a denial denied
pub not_not_m : (p : Meaning) → Proper p → not_m (not_m p) ≡ p
not_not_m p h = same_from _ _ (λ v. sym (h v)) (λ v x t. not_not _ ∙ ap (λ u. p u (x ∷ t)) (other_other v))

-- the denial of an `and` is an `or` of denials
pub not_and_m : (p q : Meaning) → not_m (and_m p q) ≡ or_m (not_m p) (not_m q)
not_and_m p q = same_from _ _ (λ v. refl) (λ v x t. not_and _ _)

-- the denial of an `or` is an `and` of denials
pub not_or_m : (p q : Meaning) → not_m (or_m p q) ≡ and_m (not_m p) (not_m q)
not_or_m p q = same_from _ _ (λ v. refl) (λ v x t. not_or _ _)

-- the denial of a `next` is the `next` of the denial
pub not_next_m : (p : Meaning) → Proper p → not_m (next_m p) ≡ next_m (not_m p)
not_next_m p h = same_from _ _ (λ v. refl) at
  where
    at : (v : View) (x : ℕ) (t : List ℕ) → not_m (next_m p) v (x ∷ t) ≡ next_m (not_m p) v (x ∷ t)
    at v x [] = ap not (h (other v)) ∙ not_weak v
    at v x (y ∷ t) = refl

-- the denial of true is false
pub not_true_m : not_m true_m ≡ meaning False
not_true_m = same_from _ _ (λ v. refl) (λ v x t. refl)

-- the denial of false is true
pub not_false_m : not_m (meaning False) ≡ true_m
not_false_m = same_from _ _ (λ v. refl) (λ v x t. refl)

-- the denial of an until is the release of the denials
pub not_until_m : (p q : Meaning) → Proper p → Proper q → not_m (until_m p q) ≡ release_m (not_m p) (not_m q)
not_until_m p q hp hq = sym (ap (λ r. not_m (until_m r (not_m (not_m q)))) (not_not_m p hp) ∙ ap (λ r. not_m (until_m p r)) (not_not_m q hq))

-- the denial of an equivalence says that exactly one holds
pub not_same_m : (p q : Meaning) → Narrow p → Narrow q → not_m (or_m (and_m p q) (and_m (not_m p) (not_m q))) ≡ or_m (and_m p (not_m q)) (and_m (not_m p) q)
not_same_m p q hp hq = same_from _ _ (λ v. refl) at
  where
    at : (v : View) (x : ℕ) (t : List ℕ) → not_m (or_m (and_m p q) (and_m (not_m p) (not_m q))) v (x ∷ t) ≡ or_m (and_m p (not_m q)) (and_m (not_m p) q) v (x ∷ t)
    at Weak x t = not_same_weak _ _ _ _ (hp (x ∷ t)) (hq (x ∷ t))
    at Strong x t = not_same_strong _ _ _ _ (hp (x ∷ t)) (hq (x ∷ t))
