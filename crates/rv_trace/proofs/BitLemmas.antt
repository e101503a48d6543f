-- A bit that stands for a test.
use Rattle.std.proofs.Common.{◌≡◌, ℕ, Bool, true, false, cond, refl, arith}

-- a bit that is not set stands for a test that failed, and one that is for one that passed
pub zero_false : (b : Bool) → cond {A = ℕ} b 1 0 ≡ 0 → b ≡ false
zero_false true is = absurd (omega (arith, is))
zero_false false is = refl

-- a bit that is set stands for a test that passed
pub one_true : (b : Bool) → cond {A = ℕ} b 1 0 ≡ 1 → b ≡ true
one_true true is = refl
one_true false is = absurd (omega (arith, is))
