use Rattle.std.proofs.Common.{◌≡◌, take}
use Rattle.rv_labels.specs.Cubes.{cube_unions}
use Rattle.rv_labels.proofs.joining.join.Given as goal

abbrev pub invariant-loop-cube : goal.invariant-loop-cube
invariant-loop-cube l = l.out.items ≡ cube_unions (take l.cube-index l.left) l.right
