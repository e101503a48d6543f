use Rattle.std.proofs.Common.{refl, arith, eqb}
use Rattle.std.proofs.lemmas.Simd.{zip2_splat, length-chunk}
use lib.Lanes.{chunk}
use Rattle.rv_trace.proofs.LaneLemmas.{mask_in}
use Rattle.rv_trace.proofs.runs.equals_bits.Goals as goal

pub returns : goal.returns
returns c =
    let v = chunk c.args.place 16 c.args.text.now in
    let long = length-chunk c.args.place 16 c.args.text.now c.requires in
    mask_in (λ byte. eqb byte 61) c.args.text.now c.args.place 16 _ c.requires (omega arith) c.type_inv.text _
    (zip2_splat _ v 16 61 long) refl
