use Rattle.std.proofs.Common.{◌≡◌, map, take}
use Rattle.rv_nnf.specs.Views.{part_values}
use Rattle.rv_tableau.specs.Rows.{node_row}
use Rattle.rv_tableau.proofs.rows.node_rows.Given as goal

abbrev pub invariant-loop-p : goal.invariant-loop-p
invariant-loop-p l = l.out.items ≡ map (node_row (part_values l.parts) l.nodes) (take l.p-index l.nodes)
