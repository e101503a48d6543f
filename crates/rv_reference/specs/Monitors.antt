-- A monitor's table, as the definitions have it.
use Rattle.std.specs.Prelude.{List, map}
use Rattle.rv_model.specs.declared.formula.Spec.{Spec}
use Rattle.rv_model.specs.declared.formula.Spec.TheVariants.{Da, Ltl}
use Rattle.rv_model.specs.Formulas.{ltl}
use Rattle.rv_model.specs.Table as model
use Rattle.rv_reference.specs.declared.monitor.Node.{Node}
use Rattle.rv_reference.specs.declared.monitor.Monitor.{Monitor}

-- a row without its boxes
abbrev pub node_of : Node → model.Node
node_of n = record { labels = map ltl n.labels.items; next = n.next }

-- an automaton has its own table, a rule the one with these rows
abbrev pub table_from : Spec → List Node → model.Table
table_from (Da automaton) nodes = model.table_of automaton
table_from (Ltl rule) nodes = model.of_labels (map node_of nodes)

-- the table of a monitor's specification, with the monitor's rows
abbrev pub table_by : Monitor → model.Table
table_by m = table_from m.spec m.nodes.items
