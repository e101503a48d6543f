use Rattle.std.proofs.Common.{◌≡◌, ◌+◌, ◌==◌, ◌&&◌, drop}
use Rattle.std.specs.Prelude.{find, option_map}
use Rattle.rv_model.specs.Table.{next_row}
use Rattle.rv_table.proofs.row.next_of.Given as goal

abbrev pub invariant-loop-edge : goal.invariant-loop-edge
invariant-loop-edge l = next_row l.automaton l.state l.event ≡ option_map (λ edge. edge.to + 1) (find (λ edge. edge.from == l.state && edge.event == l.event) (drop l.edge-index l.edge-items))
