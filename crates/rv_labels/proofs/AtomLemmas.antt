-- Sets of atoms as numbers.
use Rattle.std.proofs.Common.{◌≡◌, ℕ, zero, suc, ◌<◌, min, bit_and, true, arith, refl, sym, ap, ◌∙◌}
use Rattle.std.specs.Int.{bit_at}
use Rattle.std.proofs.lemmas.Bool.{eqb-true, eq-eqb}
use Rattle.std.proofs.lemmas.Nat.Bits.{bit_at-lt, bit_at-zero, bit_at_and, same_from_bits}
use Rattle.rv_model.specs.Numbers.{has_bit}

-- of two bits, the second asks for the first
asked : (m n : ℕ) → m < 2 → min m n ≡ n → n ≡ 1 → m ≡ 1
asked m n h e k = omega arith

-- and the other way round
least : (m n : ℕ) → n < 2 → (n ≡ 1 → m ≡ 1) → min m n ≡ n
least m zero h k = omega arith
least m (suc zero) h k = let e = k refl in omega arith
least m (suc (suc n)) h k = absurd (omega arith)

-- of two bits, not both are on
apart : (m n : ℕ) → min m n ≡ 0 → n ≡ 1 → m ≡ 1 → ⊥
apart m n e h k = omega arith

-- and the other way round
not_both : (m n : ℕ) → m < 2 → n < 2 → (n ≡ 1 → m ≡ 1 → ⊥) → min m n ≡ 0
not_both zero n h k apart = omega arith
not_both (suc zero) zero h k apart = omega arith
not_both (suc zero) (suc zero) h k apart = absurd (apart refl refl)
not_both (suc (suc m)) n h k apart = absurd (omega arith)
not_both (suc zero) (suc (suc n)) h k apart = absurd (omega arith)

module _ (s t : ℕ) where
  -- a set that is its part in another one lies in it
  pub within_from : bit_and s t ≡ t → (a : ℕ) → has_bit t a ≡ true → has_bit s a ≡ true
  within_from e a h = eq-eqb (bit_at s a) 1 (asked (bit_at s a) (bit_at t a) (bit_at-lt s a) (sym (bit_at_and s t a) ∙ ap (λ n. bit_at n a) e) (eqb-true _ _ h))

  -- and the other way round
  pub within_to : ((a : ℕ) → has_bit t a ≡ true → has_bit s a ≡ true) → bit_and s t ≡ t
  within_to each = same_from_bits (bit_and s t) t (λ a. bit_at_and s t a ∙ least (bit_at s a) (bit_at t a) (bit_at-lt t a) (λ one. eqb-true _ _ (each a (eq-eqb _ _ one))))

  -- sets whose common part is empty share no member
  pub apart_from : bit_and s t ≡ 0 → (a : ℕ) → has_bit t a ≡ true → has_bit s a ≡ true → ⊥
  apart_from e a h k = apart (bit_at s a) (bit_at t a) (sym (bit_at_and s t a) ∙ ap (λ n. bit_at n a) e ∙ bit_at-zero a) (eqb-true _ _ h) (eqb-true _ _ k)

  -- and the other way round
  pub apart_to : ((a : ℕ) → has_bit t a ≡ true → has_bit s a ≡ true → ⊥) → bit_and s t ≡ 0
  apart_to each = same_from_bits (bit_and s t) 0 (λ a. bit_at_and s t a ∙ not_both (bit_at s a) (bit_at t a) (bit_at-lt s a) (bit_at-lt t a) (λ one other. each a (eq-eqb _ _ one) (eq-eqb _ _ other)) ∙ sym (bit_at-zero a))
