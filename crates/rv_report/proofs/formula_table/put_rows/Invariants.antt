-- The first rows.
use Rattle.std.proofs.Common.{◌≡◌, ◌++◌, flat_map}
use Rattle.rv_model.specs.Numbers.{list_of}
use Rattle.rv_report.specs.FormulaTexts.{member_text}
use Rattle.rv_report.proofs.formula_table.put_rows.Given as goal

abbrev pub invariant-rows : goal.invariant-rows
invariant-rows l = l.out ≡ l.initial.out ++ flat_map (member_text l.set) (list_of (λ i. i) l.row)
