-- The labels so far and those that are to come are the whole.
use Rattle.std.proofs.Common.{◌≡◌, ◌++◌, flat_map, drop}
use Rattle.rv_table.specs.Rows.{node_in}
use Rattle.rv_report.specs.FormulaTexts.{further_text, labels_text}
use Rattle.rv_report.proofs.formula_table.put_labels.Given as goal

abbrev pub invariant-places : goal.invariant-places
invariant-places l = l.out ++ flat_map (further_text l.atoms) (drop l.place (node_in l.table l.row).labels) ≡ l.fn.out ++ labels_text l.atoms (node_in l.table l.row).labels
