use Rattle.std.proofs.Common.{refl, arith}
use Rattle.rv_text.specs.Places.{has_class}
use Rattle.rv_text.specs.declared.runs.ByteClass.TheVariants as kinds
use Rattle.rv_trace.proofs.LaneLemmas.{two_splats, run_in}
use Rattle.rv_trace.proofs.runs.blanks_in.Goals as goal

pub returns : goal.returns
returns c =
    run_in (has_class kinds.Blank) c.args.text.now c.args.place 16 _ _ c.requires (omega arith) c.type_inv.text c.first_set.ensures _
    (two_splats _ _ _ c.args.text.now c.args.place 16 32 9 c.requires) refl
