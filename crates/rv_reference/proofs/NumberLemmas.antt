-- Bits of numbers.
use Rattle.std.proofs.Common.{◌≡◌, ℕ, ◌+◌, ◌*◌, ◌<◌, ◌≤◌, ◌^◌, Bool, false, refl, add-one, if◌then◌else◌}
use Rattle.std.proofs.lemmas.Nat.Bits.{bit_at_above}
use Rattle.rv_model.specs.Numbers.{has_bit, number_of}
use Rattle.rv_model.proofs.NumberLemmas.{number_of-lt}

-- a number below 2 ^ n has no bit from n on
pub has_bit-above : (x n b : ℕ) → x < 2 ^ n → n ≤ b → has_bit x b ≡ false
has_bit-above x n b lt le = rw (bit_at_above x n b lt le) refl

-- one more bit
pub number-step : (has : ℕ → Bool) (n set : ℕ) (on : Bool) (new : ℕ) → set ≡ number_of has n → on ≡ has n → new ≡ (if on then 1 else 0) * 2 ^ n + set → new ≡ number_of has (n + 1)
unfolding number_of
number-step has n set on new is bit step = rw (add-one n, ← bit, ← is) step

-- without bits the number is 0
pub number-none : (has : ℕ → Bool) → 0 ≡ number_of has 0
unfolding number_of
number-none has = refl

-- a number of n bits is below 2 ^ n
pub number-below : (has : ℕ → Bool) (n set : ℕ) → set ≡ number_of has n → set < 2 ^ n
number-below has n set is = rw is (number_of-lt has n)
