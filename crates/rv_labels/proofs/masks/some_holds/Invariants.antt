use Rattle.std.proofs.Common.{◌≡◌, drop}
use Rattle.std.specs.List.{list_any}
use Rattle.rv_labels.specs.Holding.{meets}
use Rattle.rv_labels.proofs.masks.some_holds.Given as goal

abbrev pub invariant-loop-cube : goal.invariant-loop-cube
invariant-loop-cube l = list_any (meets l.atoms) l.cubes ≡ list_any (meets l.atoms) (drop l.cube-index l.cubes)
