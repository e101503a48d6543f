use Rattle.std.proofs.Common.{◌≡◌, ◌-◌, ap, ◌∙◌, arith}
use Rattle.std.proofs.lemmas.Nat.{leading_top}
use Rattle.std.specs.Int.{bit_at}
use Rattle.std.specs.Int.Count.{count_leading_zeros}
use Rattle.rv_matches.proofs.TopBitLemmas.{top_bit}
use Rattle.rv_matches.proofs.lanes.highest.Goals as goal

pub overflow_sub-result : goal.overflow_sub-result
overflow_sub-result c =
    let h = leading_top 64 c.args.mask (omega (arith, c.requires)) c.ranges.mask.fits in
    omega (arith, h.1)

pub returns : goal.returns
returns c =
    let h = leading_top 64 c.args.mask (omega (arith, c.requires)) c.ranges.mask.fits in
    let place : 63 - count_leading_zeros 64 c.args.mask ≡ h.0 = omega (arith, h.1) in
    let bits = top_bit c.args.mask h.0 h.2 h.3 in
    record {
      bound = omega (arith, place, h.1);
      set = ap (bit_at c.args.mask) place ∙ bits.0;
      above = λ k later. bits.1 k (omega (arith, place, later));
    }
