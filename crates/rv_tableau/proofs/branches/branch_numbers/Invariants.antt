use Rattle.std.proofs.Common.{◌≡◌, ℕ, ◌<◌, min, length}
use Rattle.std.specs.Prelude.{slice_index}
use Rattle.rv_nnf.specs.Views.{part_values}
use Rattle.rv_tableau.specs.Branches.{part_branches}
use Rattle.rv_tableau.proofs.branches.branch_numbers.Given as goal

abbrev pub invariant-loop-part : goal.invariant-loop-part
invariant-loop-part l = (length l.out.items ≡ l.part-index) × ((k : ℕ) → k < length l.out.items → slice_index l.out.items k ≡ min (part_branches (part_values l.parts) k) 4097)
