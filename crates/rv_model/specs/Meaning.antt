-- Satisfaction again, as a test that computes. A law says that the two are the same.
use Rattle.std.specs.Prelude.{ℕ, Bool, true, false, not, ◌&&◌, ◌||◌, List, [], ◌∷◌}
use Rattle.rv_model.specs.Ltl.{Ltl, True, False, Atom, Not, Next, Always, Eventually, And, Or, Imply, Equivalent, Until, Release, WeakUntil}
use Rattle.rv_model.specs.Numbers.{has_bit}
use Rattle.rv_model.specs.Truth.{View, Weak, Strong, other}

-- whether letters pass in a view
abbrev pub Meaning : Type 0
Meaning = View → List ℕ → Bool

-- the view is the weak one
abbrev pub is_weak : View → Bool
is_weak Weak = true
is_weak Strong = false

-- a test of the first letter and the rest; without letters the view decides
abbrev pub on_letter : (View → ℕ → List ℕ → Bool) → Meaning
on_letter p v [] = is_weak v
on_letter p v (x ∷ t) = p v x t

-- what always passes
abbrev pub true_m : Meaning
true_m = on_letter (λ v x t. true)

-- what does not pass in the other view
abbrev pub not_m : Meaning → Meaning
not_m p = on_letter (λ v x t. not (p (other v) (x ∷ t)))

-- both pass
abbrev pub and_m : Meaning → Meaning → Meaning
and_m p q = on_letter (λ v x t. p v (x ∷ t) && q v (x ∷ t))

-- one passes at least
abbrev pub or_m : Meaning → Meaning → Meaning
or_m p q = on_letter (λ v x t. p v (x ∷ t) || q v (x ∷ t))

-- the rest passes
abbrev pub next_m : Meaning → Meaning
next_m p = on_letter (λ v x t. p v t)

-- some suffix passes the second, and every longer one the first
abbrev pub until_m : Meaning → Meaning → Meaning
until_m p q v [] = is_weak v
until_m p q v (x ∷ t) = q v (x ∷ t) || (p v (x ∷ t) && until_m p q v t)

-- the second passes up to and with where the first does, or everywhere
abbrev pub release_m : Meaning → Meaning → Meaning
release_m p q = not_m (until_m (not_m p) (not_m q))

-- the test of a formula
abbrev pub meaning : Ltl → Meaning
meaning True = true_m
meaning False = on_letter (λ v x t. false)
meaning (Atom a) = on_letter (λ v x t. has_bit x a)
meaning (Not f) = not_m (meaning f)
meaning (Next f) = next_m (meaning f)
meaning (And f g) = and_m (meaning f) (meaning g)
meaning (Or f g) = or_m (meaning f) (meaning g)
meaning (Imply f g) = or_m (not_m (meaning f)) (meaning g)
meaning (Equivalent f g) = or_m (and_m (meaning f) (meaning g)) (and_m (not_m (meaning f)) (not_m (meaning g)))
meaning (Until f g) = until_m (meaning f) (meaning g)
meaning (Release f g) = release_m (meaning f) (meaning g)
meaning (WeakUntil f g) = release_m (meaning g) (or_m (meaning f) (meaning g))
meaning (Eventually f) = until_m true_m (meaning f)
meaning (Always f) = not_m (until_m true_m (not_m (meaning f)))

-- is a formula with no temporal operator true on the letter?
abbrev pub true_on : ℕ → Ltl → Bool
true_on x True = true
true_on x False = false
true_on x (Atom a) = has_bit x a
true_on x (Not f) = not (true_on x f)
true_on x (And f g) = true_on x f && true_on x g
true_on x (Or f g) = true_on x f || true_on x g
true_on x (Imply f g) = not (true_on x f) || true_on x g
true_on x (Equivalent f g) = (true_on x f && true_on x g) || (not (true_on x f) && not (true_on x g))
true_on x (Next f) = false
true_on x (Always f) = false
true_on x (Eventually f) = false
true_on x (Until f g) = false
true_on x (Release f g) = false
true_on x (WeakUntil f g) = false
