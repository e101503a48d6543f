-- The first rows.
use Rattle.std.proofs.Common.{◌≡◌, ◌++◌, flat_map}
use Rattle.rv_model.specs.Numbers.{list_of}
use Rattle.rv_report.specs.FormulaTexts.{formula_row_text}
use Rattle.rv_report.proofs.formula_table.put_nodes.Given as goal

abbrev pub invariant-nodes : goal.invariant-nodes
invariant-nodes l = l.out ≡ l.initial.out ++ flat_map (formula_row_text l.atoms l.table) (list_of (λ i. i) l.row)
