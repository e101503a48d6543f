use Rattle.std.proofs.Common.{◌≡◌}
use Rattle.rv_model.specs.Numbers.{list_of}
use Rattle.rv_model.specs.Table.{next_row}
use Rattle.rv_table.proofs.row.Row.of_state.Given as goal

abbrev pub invariant-loop-event : goal.invariant-loop-event
invariant-loop-event l = l.next.items ≡ list_of (next_row l.automaton l.fn.state) l.event
