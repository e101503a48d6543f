use Rattle.std.proofs.Common.{refl, arith, ltb, cond}
use Rattle.std.proofs.lemmas.Simd.{zip2_splat, length-chunk}
use lib.Lanes.{chunk}
use Rattle.rv_text.specs.Places.{has_class}
use Rattle.rv_text.specs.declared.runs.ByteClass.TheVariants as kinds
use Rattle.rv_trace.proofs.LaneLemmas.{joined, splat_is, itself, run_in}
use Rattle.rv_trace.proofs.runs.digits_in.Goals as goal

pub returns : goal.returns
returns c =
    let v = chunk c.args.place 16 c.args.text.now in
    let long = length-chunk c.args.place 16 c.args.text.now c.requires in
    run_in (has_class kinds.Digit) c.args.text.now c.args.place 16 _ _ c.requires (omega arith) c.type_inv.text c.first_set.ensures _
    (joined _ _ _ v (zip2_splat _ v 16 48 long) (joined (λ a b. cond (ltb a b) 255 0) _ _ v (splat_is v 16 57 long) (itself v))) refl
