use Rattle.std.proofs.Common.{◌≡◌, ◌<◌, ◌^◌, ◌||◌, ℕ}
use Rattle.rv_model.specs.declared.hit.Letter.TheVariants.{Event}
use Rattle.rv_model.specs.Numbers.{has_bit}
use Rattle.rv_model.specs.Table.{of_events}
use Rattle.rv_model.specs.Stepping.{some_follows}
use Rattle.rv_table.proofs.steps.follow_events.Given as goal

abbrev pub invariant-loop-rest : goal.invariant-loop-rest
invariant-loop-rest l = (l.out < 2 ^ 32) × ((count q : ℕ) → q < 32 → (has_bit l.out q || some_follows (of_events count l.rows) l.rest (Event l.event) 32 q) ≡ some_follows (of_events count l.rows) l.set (Event l.event) 32 q)

abbrev pub decreases-loop-rest : goal.decreases-loop-rest
decreases-loop-rest l = l.rest
