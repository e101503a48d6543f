use Rattle.std.proofs.Common.{◌≡◌, ◌+◌, drop}
use Rattle.rv_nnf.specs.inner.Entering.{same_part}
use Rattle.rv_nnf.specs.Views.{part_value, part_values}
use Rattle.rv_nnf.specs.Lists.{place}
use Rattle.rv_nnf.proofs.entering.place.Given as goal

abbrev pub invariant-loop-i : goal.invariant-loop-i
invariant-loop-i l = place same_part (part_values l.parts) (part_value l.part) ≡ l.i + place same_part (part_values (drop l.i l.parts)) (part_value l.part)
