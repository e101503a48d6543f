-- What `table` prints of a file.
use Rattle.std.specs.Prelude.{ℕ, List, Result, Ok}
use Rattle.rv_text.specs.declared.refusals.Refusal.{Refusal}
use Rattle.rv_text.specs.Readings.{and_then}
use Rattle.rv_io.specs.Files.{Files}
use Rattle.rv_model.specs.Formulas.{RuleValue}
use Rattle.rv_dot.specs.Dot.{dot_of}
use Rattle.rv_ltl.specs.RuleFile.{ltl_of}
use Rattle.rv_nnf.specs.NormalForm.{normal_of}
use Rattle.rv_tableau.specs.Rows.{tableau_of}
use Rattle.rv_bind.specs.Outcomes.{Outcome, of_file, of_name}
use Rattle.rv_model.specs.declared.kind.SpecKind.{SpecKind}
use Rattle.rv_model.specs.declared.kind.SpecKind.TheVariants as kinds
use Rattle.rv_report.specs.AutomatonTexts.{automaton_text}
use Rattle.rv_report.specs.FormulaTexts.{nodes_text}

-- the printed table of a rule's normal form, or the first refusal
abbrev pub rule_text : RuleValue → Result (List ℕ) Refusal
rule_text rule = and_then (normal_of rule.formula) (λ parts. and_then (tableau_of parts) (λ table. Ok (nodes_text rule.atoms table)))

-- the printed table of a specification, or the first refusal
abbrev pub table_text : SpecKind → List ℕ → Result (List ℕ) Refusal
table_text kinds.Da bytes = and_then (dot_of bytes) (λ automaton. Ok (automaton_text automaton))
table_text kinds.Ltl bytes = and_then (ltl_of bytes) rule_text

-- the same of a file
abbrev pub table_in : Files → SpecKind → List ℕ → Outcome (List ℕ)
table_in files kind file = of_name files file (λ bytes. of_file file (table_text kind bytes))
