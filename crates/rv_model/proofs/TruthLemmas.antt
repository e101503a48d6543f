-- The test says what satisfaction is.
use Rattle.std.proofs.Common.{◌≡◌, ℕ, zero, suc, ◌<◌, ◌≤◌, Bool, true, false, List, [], ◌∷◌, length, drop, refl, sym, ◌∙◌, ◌⊎◌, inl, inr, arith}
use Rattle.std.specs.Bool.{Decides}
use Rattle.std.proofs.lemmas.Bool.Decides.{Decides-not, Decides-and, Decides-or, Decides-like}
use Rattle.std.proofs.lemmas.Bool.{false≢true}
use Rattle.rv_model.specs.Ltl.{Ltl, True, False, Atom, Not, Next, Always, Eventually, And, Or, Imply, Equivalent, Until, Release, WeakUntil}
use Rattle.rv_model.specs.Truth.{View, Weak, Strong, other, Property, OnLetter, TrueSays, NotSays, AndSays, OrSays, UntilSays, ReleaseSays, property_of}
use Rattle.rv_model.specs.Meaning.{Meaning, is_weak, on_letter, true_m, not_m, and_m, or_m, until_m, release_m, meaning}

-- the test p says what P says
abbrev pub Tells : Meaning → Property → Type 0
Tells p P = (v : View) (w : List ℕ) → Decides (p v w) (P v w)

-- the test that always passes decides what always holds
decides_true : Decides true (Unit {0})
decides_true = (λ _. tt, λ _. refl)

-- the test that never passes decides what never holds
decides_false : Decides false ⊥
decides_false = (λ e. absurd (false≢true e), λ e. absurd e)

-- a test by the first letter says what is said by the first letter, also where there is none
on_letter_tells : (p : View → ℕ → List ℕ → Bool) (P : View → ℕ → List ℕ → Type 0) → ((v : View) (x : ℕ) (t : List ℕ) → Decides (p v x t) (P v x t)) → Tells (on_letter p) (OnLetter P)
on_letter_tells p P h Weak [] = decides_true
on_letter_tells p P h Strong [] = decides_false
on_letter_tells p P h Weak (x ∷ t) = h Weak x t
on_letter_tells p P h Strong (x ∷ t) = h Strong x t

-- the test of a negation says what a negation says
not_tells : (p : Meaning) (P : Property) → Tells p P → Tells (not_m p) (NotSays P)
not_tells p P h = on_letter_tells _ _ (λ v x t. Decides-not _ (h (other v) (x ∷ t)))

-- the test of a conjunction says what a conjunction says
and_tells : (p q : Meaning) (P Q : Property) → Tells p P → Tells q Q → Tells (and_m p q) (AndSays P Q)
and_tells p q P Q h k = on_letter_tells _ _ (λ v x t. Decides-and _ _ (h v (x ∷ t)) (k v (x ∷ t)))

-- the test of a disjunction says what a disjunction says
or_tells : (p q : Meaning) (P Q : Property) → Tells p P → Tells q Q → Tells (or_m p q) (OrSays P Q)
or_tells p q P Q h k = on_letter_tells _ _ (λ v x t. Decides-or _ _ (h v (x ∷ t)) (k v (x ∷ t)))

-- some suffix has Q, and all earlier ones P
abbrev Somewhere : Property → Property → View → List ℕ → Type 0
Somewhere P Q v w = (k : ℕ) × (k ≤ length w) × Q v (drop k w) × ((j : ℕ) → j < k → P v (drop j w))

-- it is so where the whole has Q, or has P and it is so behind the first letter
somewhere_to : (P Q : Property) (v : View) (x : ℕ) (t : List ℕ) → Q v (x ∷ t) ⊎ (P v (x ∷ t) × Somewhere P Q v t) → Somewhere P Q v (x ∷ t)
somewhere_to P Q v x t (inl q) = (zero, omega arith, q, λ j h. absurd (omega arith))
somewhere_to P Q v x t (inr (p, (k, l, q, e))) = (suc k, omega arith, q, before)
  where
    before : (j : ℕ) → j < suc k → P v (drop j (x ∷ t))
    before zero h = p
    before (suc j) h = e j (omega arith)

-- and only there
somewhere_from : (P Q : Property) (v : View) (x : ℕ) (t : List ℕ) → Somewhere P Q v (x ∷ t) → Q v (x ∷ t) ⊎ (P v (x ∷ t) × Somewhere P Q v t)
somewhere_from P Q v x t (zero, l, q, e) = inl q
somewhere_from P Q v x t (suc k, l, q, e) = inr (e zero (omega arith), (k, omega arith, q, λ j h. e (suc j) (omega arith)))

-- the test of an until passes exactly where some suffix has Q, and all earlier ones P
somewhere_tells : (p q : Meaning) (P Q : Property) → Tells p P → Tells q Q → ((v : View) → q v [] ≡ is_weak v) → (v : View) (w : List ℕ) → Decides (until_m p q v w) (Somewhere P Q v w)
somewhere_tells p q P Q h k proper v [] = (λ e. (zero, omega arith, (k v []).0 (proper v ∙ e), λ j l. absurd (omega arith)), λ s. sym (proper v) ∙ (k v []).1 (none s))
  where
    none : Somewhere P Q v [] → Q v []
    none (zero, l, s, e) = s
    none (suc n, l, s, e) = absurd (omega arith)
somewhere_tells p q P Q h k proper v (x ∷ t) =
    Decides-like _ (somewhere_to P Q v x t) (somewhere_from P Q v x t)
    (Decides-or _ _ (k v (x ∷ t)) (Decides-and _ _ (h v (x ∷ t)) (somewhere_tells p q P Q h k proper v t)))

-- the test of an until says what an until says
until_tells : (p q : Meaning) (P Q : Property) → Tells p P → Tells q Q → ((v : View) → q v [] ≡ is_weak v) → Tells (until_m p q) (UntilSays P Q)
until_tells p q P Q h k proper Weak [] = decides_true
until_tells p q P Q h k proper Strong [] = decides_false
until_tells p q P Q h k proper Weak (x ∷ t) = somewhere_tells p q P Q h k proper Weak (x ∷ t)
until_tells p q P Q h k proper Strong (x ∷ t) = somewhere_tells p q P Q h k proper Strong (x ∷ t)

-- the test of a release says what a release says
release_tells : (p q : Meaning) (P Q : Property) → Tells p P → Tells q Q → Tells (release_m p q) (ReleaseSays P Q)
release_tells p q P Q h k = not_tells _ _ (until_tells _ _ _ _ (not_tells _ _ h) (not_tells _ _ k) (λ v. refl))

-- on the empty word, whatever the formula
pub proper : (f : Ltl) (v : View) → meaning f v [] ≡ is_weak v
proper True v = refl
proper False v = refl
proper (Atom a) v = refl
proper (Not f) v = refl
proper (Next f) v = refl
proper (And f g) v = refl
proper (Or f g) v = refl
proper (Imply f g) v = refl
proper (Equivalent f g) v = refl
proper (Until f g) v = refl
proper (Release f g) v = refl
proper (WeakUntil f g) v = refl
proper (Eventually f) v = refl
proper (Always f) v = refl

-- the test of the constant true says what it says
true_tells : Tells true_m TrueSays
true_tells = on_letter_tells _ _ (λ v x t. decides_true)

-- the test of a formula says what the formula says
pub tells : (f : Ltl) → Tells (meaning f) (property_of f)
tells True = true_tells
tells False = on_letter_tells _ _ (λ v x t. decides_false)
tells (Atom a) = on_letter_tells _ _ (λ v x t. (λ e. e, λ e. e))
tells (Not f) = not_tells _ _ (tells f)
tells (Next f) = on_letter_tells _ _ (λ v x t. tells f v t)
tells (And f g) = and_tells _ _ _ _ (tells f) (tells g)
tells (Or f g) = or_tells _ _ _ _ (tells f) (tells g)
tells (Imply f g) = or_tells _ _ _ _ (not_tells _ _ (tells f)) (tells g)
tells (Equivalent f g) = or_tells _ _ _ _ (and_tells _ _ _ _ (tells f) (tells g)) (and_tells _ _ _ _ (not_tells _ _ (tells f)) (not_tells _ _ (tells g)))
tells (Until f g) = until_tells _ _ _ _ (tells f) (tells g) (proper g)
tells (Release f g) = release_tells _ _ _ _ (tells f) (tells g)
tells (WeakUntil f g) = release_tells _ _ _ _ (tells g) (or_tells _ _ _ _ (tells f) (tells g))
tells (Eventually f) = until_tells _ _ _ _ true_tells (tells f) (proper f)
tells (Always f) = not_tells _ _ (until_tells _ _ _ _ true_tells (not_tells _ _ (tells f)) (λ v. refl))
