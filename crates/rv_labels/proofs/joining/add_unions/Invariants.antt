use Rattle.std.proofs.Common.{◌≡◌, ◌++◌, take}
use Rattle.rv_labels.specs.Cubes.{unions_with}
use Rattle.rv_labels.proofs.joining.add_unions.Given as goal

abbrev pub invariant-loop-cube : goal.invariant-loop-cube
invariant-loop-cube l = l.out.items ≡ l.initial.out.items ++ unions_with (take l.cube-index l.right) l.left
