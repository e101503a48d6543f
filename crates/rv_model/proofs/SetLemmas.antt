-- Sets as numbers: which members a union has, a common part, the empty set, and a set of one.
use Rattle.std.proofs.Common.{◌≡◌, ◌≢◌, ℕ, ◌^◌, ◌<◌, ◌==◌, ◌&&◌, ◌||◌, max, min, bit_and, bit_or, true, false, inl, inr, arith, sym, ap, ◌∙◌}
use Rattle.std.specs.Int.{bit_at}
use Rattle.std.proofs.lemmas.Bool.{cases_eq, false≢true}
use Rattle.std.proofs.lemmas.Nat.Bits.{bit_at-lt, bit_at-zero, bit_at_and, bit_at_or, bit_at-pow_same, bit_at-pow_other}
use Rattle.rv_model.specs.Numbers.{has_bit}

-- one bit of a union
has_max : (m n : ℕ) → m < 2 → n < 2 → (max m n == 1) ≡ (m == 1 || n == 1)
has_max m n h k = grind arith

-- one bit of a common part
has_min : (m n : ℕ) → m < 2 → n < 2 → (min m n == 1) ≡ (m == 1 && n == 1)
has_min m n h k = grind arith

-- the members of a union
pub has_or : (s t k : ℕ) → has_bit (bit_or s t) k ≡ (has_bit s k || has_bit t k)
has_or s t k = ap (λ n. n == 1) (bit_at_or s t k) ∙ has_max (bit_at s k) (bit_at t k) (bit_at-lt s k) (bit_at-lt t k)

-- the members that both sets have
pub has_and : (s t k : ℕ) → has_bit (bit_and s t) k ≡ (has_bit s k && has_bit t k)
has_and s t k = ap (λ n. n == 1) (bit_at_and s t k) ∙ has_min (bit_at s k) (bit_at t k) (bit_at-lt s k) (bit_at-lt t k)

-- the empty set has no member
pub has_none : (k : ℕ) → has_bit 0 k ≡ false
has_none k = ap (λ n. n == 1) (bit_at-zero k)

-- a set of one has that one
pub has_same : (k : ℕ) → has_bit (2 ^ k) k ≡ true
has_same k = ap (λ n. n == 1) (bit_at-pow_same k)

-- and no other
pub has_other : (k i : ℕ) → i ≢ k → has_bit (2 ^ k) i ≡ false
has_other k i other = ap (λ n. n == 1) (bit_at-pow_other k i other)

-- so what it has is that one
pub only_same : (k i : ℕ) → has_bit (2 ^ k) i ≡ true → i ≡ k
only_same k i has = elim (cases_eq i k) [
  | inl same ↦ same
  | inr other ↦ absurd (false≢true (sym (has_other k i other) ∙ has))
]
