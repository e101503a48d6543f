-- Tests that are true exactly where a fact holds.
use Rattle.std.proofs.Common.{◌≡◌, ℕ, ◌==◌, arith, true, false, IsTrue, refl}

-- a true test is a test of a fact that holds
pub iff_yes : {P : Type 0} → P → (IsTrue true → P) × (P → IsTrue true)
iff_yes p = (λ _. p, λ _. refl)

-- from a false test that is true anything follows
false_true : {P : Type 0} → IsTrue false → P
false_true e = absurd (let f : false ≡ true = e in cc)

-- a false test is a test of a fact that does not hold
pub iff_no : {P : Type 0} → (P → ⊥) → (IsTrue false → P) × (P → IsTrue false)
iff_no none = (λ e. false_true e, λ p. absurd (none p))

-- equal numbers by their test
pub same_is : (a b : ℕ) → a ≡ b → IsTrue (a == b)
same_is a b e = grind arith

-- numbers that the test tells to be equal are equal
pub is_same : (a b : ℕ) → IsTrue (a == b) → a ≡ b
is_same a b e = grind arith
