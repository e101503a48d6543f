-- What holds in the strong view holds in the weak one.
use Rattle.std.proofs.Common.{ℕ, Bool, true, false, not, ◌&&◌, ◌||◌, [], ◌∷◌, refl, ap, ◌∙◌}
use Rattle.std.proofs.lemmas.Bool.{false≢true}
use Rattle.rv_model.specs.Ltl.{Ltl, True, False, Atom, Not, Next, Always, Eventually, And, Or, Imply, Equivalent, Until, Release, WeakUntil}
use Rattle.rv_model.specs.Numbers.{has_bit}
use Rattle.rv_model.specs.Meaning.{Meaning, on_letter, true_m, not_m, and_m, or_m, next_m, until_m, release_m, meaning}
use Rattle.rv_nnf.proofs.Denials.{Le, Narrow}

-- ---- the strong view is the narrower

-- a denial turns the order
le_not : (a b : Bool) → Le a b → Le (not b) (not a)
le_not true true h = λ e. e
le_not true false h = λ e. absurd (false≢true (h refl))
le_not false b h = λ e. refl

-- both keep it
le_and : (a b c d : Bool) → Le a b → Le c d → Le (a && c) (b && d)
le_and true b c d h k = λ e. ap (λ r. r && d) (h refl) ∙ k e
le_and false b c d h k = λ e. absurd (false≢true e)

-- one of two keeps it
le_or : (a b c d : Bool) → Le a b → Le c d → Le (a || c) (b || d)
le_or true b c d h k = λ e. ap (λ r. r || d) (h refl)
le_or false true c d h k = λ e. refl
le_or false false c d h k = λ e. k e

-- on no letters
le_empty : Le false true
le_empty e = refl

-- a denial
not_narrow : (p : Meaning) → Narrow p → Narrow (not_m p)
not_narrow p h [] = le_empty
not_narrow p h (x ∷ t) = le_not _ _ (h (x ∷ t))

-- an `and`
and_narrow : (p q : Meaning) → Narrow p → Narrow q → Narrow (and_m p q)
and_narrow p q h k [] = le_empty
and_narrow p q h k (x ∷ t) = le_and _ _ _ _ (h (x ∷ t)) (k (x ∷ t))

-- an `or`
or_narrow : (p q : Meaning) → Narrow p → Narrow q → Narrow (or_m p q)
or_narrow p q h k [] = le_empty
or_narrow p q h k (x ∷ t) = le_or _ _ _ _ (h (x ∷ t)) (k (x ∷ t))

-- a `next`
next_narrow : (p : Meaning) → Narrow p → Narrow (next_m p)
next_narrow p h [] = le_empty
next_narrow p h (x ∷ t) = h t

-- an until
until_narrow : (p q : Meaning) → Narrow p → Narrow q → Narrow (until_m p q)
until_narrow p q h k [] = le_empty
until_narrow p q h k (x ∷ t) = le_or _ _ _ _ (k (x ∷ t)) (le_and _ _ _ _ (h (x ∷ t)) (until_narrow p q h k t))

-- a release
release_narrow : (p q : Meaning) → Narrow p → Narrow q → Narrow (release_m p q)
release_narrow p q h k = not_narrow (until_m (not_m p) (not_m q)) (until_narrow (not_m p) (not_m q) (not_narrow p h) (not_narrow q k))

-- what looks at the first letter alone
letter_narrow : (b : ℕ → Bool) → Narrow (on_letter (λ v x t. b x))
letter_narrow b [] = le_empty
letter_narrow b (x ∷ t) = λ e. e

-- what a formula says strongly it says weakly
pub narrow : (f : Ltl) → Narrow (meaning f)
narrow True = letter_narrow (λ x. true)
narrow False = letter_narrow (λ x. false)
narrow (Atom a) = letter_narrow (λ x. has_bit x a)
narrow (Not f) = not_narrow (meaning f) (narrow f)
narrow (Next f) = next_narrow (meaning f) (narrow f)
narrow (And f g) = and_narrow (meaning f) (meaning g) (narrow f) (narrow g)
narrow (Or f g) = or_narrow (meaning f) (meaning g) (narrow f) (narrow g)
narrow (Imply f g) = or_narrow (not_m (meaning f)) (meaning g) (not_narrow (meaning f) (narrow f)) (narrow g)
narrow (Equivalent f g) =
    or_narrow (and_m (meaning f) (meaning g)) (and_m (not_m (meaning f)) (not_m (meaning g)))
    (and_narrow (meaning f) (meaning g) (narrow f) (narrow g))
    (and_narrow (not_m (meaning f)) (not_m (meaning g)) (not_narrow (meaning f) (narrow f)) (not_narrow (meaning g) (narrow g)))
narrow (Until f g) = until_narrow (meaning f) (meaning g) (narrow f) (narrow g)
narrow (Release f g) = release_narrow (meaning f) (meaning g) (narrow f) (narrow g)
narrow (WeakUntil f g) = release_narrow (meaning g) (or_m (meaning f) (meaning g)) (narrow g) (or_narrow (meaning f) (meaning g) (narrow f) (narrow g))
narrow (Eventually f) = until_narrow true_m (meaning f) (letter_narrow (λ x. true)) (narrow f)
narrow (Always f) = not_narrow (until_m true_m (not_m (meaning f))) (until_narrow true_m (not_m (meaning f)) (letter_narrow (λ x. true)) (not_narrow (meaning f) (narrow f)))
