use Rattle.std.proofs.Common.{◌≡◌, ◌<◌, ◌^◌, ◌||◌, ℕ}
use Rattle.rv_model.specs.Numbers.{has_bit}
use Rattle.rv_table.specs.inner.Numbered.{some_next}
use Rattle.rv_table.proofs.steps.next_of.Given as goal

abbrev pub invariant-loop-left : goal.invariant-loop-left
invariant-loop-left l = (l.next < 2 ^ 32) × ((q : ℕ) → (has_bit l.next q || some_next l.nodes l.left 32 q) ≡ some_next l.nodes l.set 32 q)

abbrev pub decreases-loop-left : goal.decreases-loop-left
decreases-loop-left l = l.left
