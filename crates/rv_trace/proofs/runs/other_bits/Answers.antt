use Rattle.std.proofs.Common.{refl, arith, ltb, cond, not}
use Rattle.std.proofs.lemmas.Simd.{zip2_splat, length-chunk}
use lib.Lanes.{chunk}
use Rattle.rv_text.specs.Places.{is_digit}
use Rattle.rv_trace.proofs.LaneLemmas.{joined, splat_is, itself, mask_in}
use Rattle.rv_trace.proofs.runs.other_bits.Goals as goal

pub returns : goal.returns
returns c =
    let v = chunk c.args.place 16 c.args.text.now in
    let long = length-chunk c.args.place 16 c.args.text.now c.requires in
    mask_in (λ byte. not (is_digit byte)) c.args.text.now c.args.place 16 _ c.requires (omega arith) c.type_inv.text _
    (joined _ _ _ v (zip2_splat _ v 16 48 long) (joined (λ a b. cond (ltb a b) 255 0) _ _ v (splat_is v 16 57 long) (itself v))) refl
