use Rattle.std.proofs.Common.{◌≡◌, ◌+◌, length, take}
use Rattle.rv_table.specs.inner.Numbered.{AreNumberedRows, nodes_by}
use Rattle.rv_table.specs.Rows.{node_rows}
use Rattle.rv_table.proofs.nodes.Nodes.new.Given as goal

abbrev pub invariant-loop-node : goal.invariant-loop-node
invariant-loop-node l =
    (length l.rows.items ≡ l.node-index + 1)
    × AreNumberedRows l.labels.items l.rows.items
    × (nodes_by l.labels.items l.rows.items ≡ node_rows l.first (take l.node-index l.nodes))
