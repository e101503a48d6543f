-- A table's rows as contracts see them.
use Rattle.rv_model.specs.Table.{Table, of_events, of_labels}
use Rattle.rv_table.specs.declared.table.TableRows.{TableRows}
use Rattle.rv_table.specs.declared.table.TableRows.TheVariants.{Events, Labels}

-- what a table is, by its kind
abbrev pub table_value : TableRows → Table
table_value (Events count rows) = of_events count rows.items
table_value (Labels nodes) = of_labels nodes
