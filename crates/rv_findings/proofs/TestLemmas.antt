-- What tests say: of numbers, of denials, and of two together.
use Rattle.std.proofs.Common.{◌≡◌, ℕ, ◌<◌, Bool, true, false, ◌⊎◌, inl, inr, refl, sym, ap, ◌∙◌, arith}
use Rattle.std.specs.Prelude.{◌==◌, not, ◌&&◌}
use Rattle.std.proofs.lemmas.Bool.{false≢true}
use Rattle.std.proofs.lemmas.Bool.Decides.{nat_tests}

-- a number that is not zero
pub above : (n : ℕ) → (n == 0) ≡ false → 0 < n
above n e = grind (arith, nat_tests)

-- and back
pub not_zero : (n : ℕ) → 0 < n → (n == 0) ≡ false
not_zero n lt = grind (arith, nat_tests)

-- zero
pub is_zero : (n : ℕ) → (n == 0) ≡ true → n ≡ 0
is_zero n e = grind (arith, nat_tests)

-- and back
pub zero_is : (n : ℕ) → n ≡ 0 → (n == 0) ≡ true
zero_is n e = grind (arith, nat_tests)

-- a test has two answers
pub either_is : (b : Bool) → (b ≡ true) ⊎ (b ≡ false)
either_is true = inl refl
either_is false = inr refl

-- two tests do not hold together
pub not_both : (a b : Bool) → (a && b) ≡ false → a ≡ true → b ≡ false
not_both true b e is = e
not_both false b e is = absurd (false≢true is)

-- and back
pub one_fails : (a b : Bool) → (a ≡ true → b ≡ false) → (a && b) ≡ false
one_fails true b fails = fails refl
one_fails false b fails = refl

-- a denial
pub not_is : (b : Bool) → not b ≡ false → b ≡ true
not_is true e = refl
not_is false e = absurd (false≢true (sym e))

-- and back
pub is_not : (b : Bool) → b ≡ true → not b ≡ false
is_not true e = refl
is_not false e = absurd (false≢true e)

-- a number above zero passes
pub passes : (n : ℕ) → 0 < n → not (n == 0) ≡ true
passes n lt = rw (not_zero n lt) refl

-- and back
pub from_passes : (n : ℕ) → not (n == 0) ≡ true → 0 < n
from_passes n e = elim (either_is (n == 0)) [
  | inl is ↦ let wrong : not true ≡ true = ap not (sym is) ∙ e in absurd (false≢true wrong)
  | inr differs ↦ above n differs
]

-- zero
pub from_fails : (n : ℕ) → not (n == 0) ≡ false → n ≡ 0
from_fails n e = is_zero n (not_is (n == 0) e)

-- and back
pub fails : (n : ℕ) → n ≡ 0 → not (n == 0) ≡ false
fails n e = is_not (n == 0) (zero_is n e)

-- both hold
pub both : (a b : Bool) → (a && b) ≡ true → (a ≡ true) × (b ≡ true)
both true b e = (refl, e)
both false b e = absurd (false≢true e)

-- and back
pub together : (a b : Bool) → a ≡ true → b ≡ true → (a && b) ≡ true
together a b e f = rw e f

-- what is denied fails
pub denied : (b : Bool) → not b ≡ true → b ≡ false
denied true e = absurd (false≢true e)
denied false e = refl

-- and back
pub deny : (b : Bool) → b ≡ false → not b ≡ true
deny b e = rw e refl
