-- What two sets of rows share.
use Rattle.std.proofs.Common.{◌≡◌, ℕ, zero, suc, ◌-◌, ◌^◌, ◌<◌, ◌==◌, ◌&&◌, ◌||◌, not, bit_and, w32, Bool, true, false, arith, refl, sym, ap, ◌∙◌}
use Rattle.std.specs.Int.{bit_at, bit_not}
use Rattle.std.proofs.lemmas.Nat.Bits.{bit_at-lt, bit_at-zero, bit_at_not}
use Rattle.rv_model.specs.Numbers.{has_bit}
use Rattle.rv_model.proofs.SetLemmas.{has_and}

-- where no member is shared, none is left out
pub apart : (a b q : ℕ) (t : Bool) → bit_and a b ≡ 0 → has_bit a q ≡ (has_bit a q && (not (has_bit b q) || t))
apart a b q t none = go (has_bit a q) (has_bit b q) (sym (has_and a b q) ∙ ap (λ n. has_bit n q) none ∙ ap (λ n. n == 1) (bit_at-zero q))
  where
    go : (here there : Bool) → (here && there) ≡ false → here ≡ (here && (not there || t))
    go true false e = refl
    go false true e = refl
    go false false e = refl
    go true true e = absurd (cc)

-- the members that are left when others are taken out
pub has_without : (set others q : ℕ) → others < 2 ^ 32 → q < 32 → has_bit (bit_and set (4294967295 - others)) q ≡ (has_bit set q && not (has_bit others q))
has_without set others q fits lt = has_and set (bit_not w32 others) q ∙ ap (λ b. has_bit set q && b) (ap (λ n. n == 1) (bit_at_not w32 others q fits lt) ∙ flip (bit_at others q) (bit_at-lt others q))
  where
    flip : (n : ℕ) → n < 2 → (1 - n == 1) ≡ not (n == 1)
    flip zero h = refl
    flip (suc zero) h = refl
    flip (suc (suc n)) h = absurd (omega arith)
