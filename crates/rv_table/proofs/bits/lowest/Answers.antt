use Rattle.std.proofs.Common.{ℕ, ◌==◌, arith, w32, ap}
use Rattle.std.proofs.lemmas.Nat.Bits.{bit_at-trailing_zeros}
use Rattle.rv_table.proofs.bits.lowest.Goals as goal

pub returns : goal.returns
returns c =
    let h = bit_at-trailing_zeros w32 c.args.set (omega (arith, c.requires)) c.ranges.set.fits in
    record { few = h.0; member = ap (λ (b : ℕ). b == 1) h.1; below = λ other lt. ap (λ (b : ℕ). b == 1) (h.2 other lt) }
