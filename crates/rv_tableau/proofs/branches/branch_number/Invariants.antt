use Rattle.std.proofs.Common.{◌≡◌, min}
use Rattle.rv_nnf.specs.Views.{part_values}
use Rattle.rv_tableau.specs.Branches.{branches_below}
use Rattle.rv_tableau.proofs.branches.branch_number.Given as goal

abbrev pub invariant-loop-k : goal.invariant-loop-k
invariant-loop-k l = l.out ≡ min (branches_below (part_values l.parts) l.set l.k) 4097
