-- From a specification's text to the specification and its table.
use Rattle.std.specs.Prelude.{◌≡◌, ℕ, List, Result, Ok}
use Rattle.rv_text.specs.declared.refusals.Refusal.{Refusal}
use Rattle.rv_text.specs.Readings.{and_then}
use Rattle.rv_model.specs.declared.formula.Spec.{Spec}
use Rattle.rv_model.specs.declared.formula.Spec.TheVariants as specs
use Rattle.rv_model.specs.Ltl.{Ltl}
use Rattle.rv_model.specs.Table.{Table, table_of}
use Rattle.rv_model.specs.Judging.{Means}
use Rattle.rv_dot.specs.Dot.{dot_of}
use Rattle.rv_ltl.specs.RuleFile.{ltl_of}
use Rattle.rv_nnf.specs.NormalForm.{normal_of}
use Rattle.rv_tableau.specs.Rows.{tableau_of}
use Rattle.rv_model.specs.declared.kind.SpecKind.{SpecKind}
use Rattle.rv_model.specs.declared.kind.SpecKind.TheVariants as kinds
use Rattle.rv_bind.specs.declared.compile.Compiled.{Compiled}

-- the table of a formula, by its normal form, or the refusal of one that is too large
abbrev pub formula_table : Ltl → Result Table Refusal
formula_table formula = and_then (normal_of formula) tableau_of

-- a text of this kind as a specification with its table, or the text's first refusal
abbrev pub compiled_of : SpecKind → List ℕ → Result Compiled Refusal
compiled_of kinds.Da text = and_then (dot_of text) (λ automaton. Ok (record { spec = specs.Da automaton; table = table_of automaton }))
compiled_of kinds.Ltl text =
    and_then (ltl_of text) (λ rule. and_then (formula_table rule.formula) (λ table. Ok (record { spec = specs.Ltl rule; table = table })))

-- the table is the one that is made of the specification
abbrev pub IsTableOf : Spec → Table → Type 0
IsTableOf (specs.Da automaton) table = table ≡ table_of automaton
IsTableOf (specs.Ltl rule) table = formula_table rule.formula ≡ Ok table

-- the table is the one that is made of the specification, and means it
pub record Compiles (spec : Spec) (table : Table) : Type 0 where
  pub is : IsTableOf spec table
  pub means : Means table spec
