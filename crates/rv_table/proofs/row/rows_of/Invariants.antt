use Rattle.std.proofs.Common.{◌≡◌, [], ◌∷◌, length}
use Rattle.rv_model.specs.Numbers.{list_of}
use Rattle.rv_model.specs.Table.{next_row}
use Rattle.rv_table.proofs.row.rows_of.Given as goal

abbrev pub invariant-loop-state : goal.invariant-loop-state
invariant-loop-state l = l.rows.items ≡ [] ∷ list_of (λ state. list_of (next_row l.automaton state) (length l.automaton.events)) l.state
