-- A table may be read by several threads at once. The search for this gives up on a whole table, so that each type on the way has its line.
use denote.Param.Send.{IsSync, sendable}
use Rattle.std.proofs.Crossing.{crosses}
use Rattle.rv_labels.proofs.ThreadLemmas.{masks-sync}
use Rattle.rv_table.specs.contracts.label.Label as Label
use Rattle.rv_table.specs.contracts.nodes.NumberedRow as NumberedRow
use Rattle.rv_table.specs.contracts.nodes.Nodes as Nodes
use Rattle.rv_table.specs.contracts.table.TableRows as TableRows
use Rattle.rv_table.specs.contracts.table.Table as Table

-- a label with its rows may be
label-sync : IsSync Label.the_row
label-sync = search (sendable, crosses, masks-sync) depth 20

-- a row with the numbers of its labels may be
numbered-sync : IsSync NumberedRow.the_row
numbered-sync = search (sendable, crosses) depth 20

-- the rows of a formula's table may be
nodes-sync : IsSync Nodes.the_row
nodes-sync = search (sendable, crosses, label-sync, numbered-sync) depth 20

-- the rows of either kind may be, where they stand in a field
kind-sync : IsSync (TableRows.the_field).row
kind-sync = search (sendable, crosses, nodes-sync) depth 20

-- a table may be
pub table-sync : IsSync Table.the_row
table-sync = search (sendable, crosses, kind-sync) depth 20
