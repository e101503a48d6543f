-- Every refusal of a script, a table, C tables and a watched slot has one of the refusals' numbers.
use Rattle.std.proofs.Common.{ℕ, List, [], ◌∷◌, inl, inr, arith}
use Rattle.std.specs.Prelude.{Option, Result, Ok, Err, IfErr}
use Rattle.rv_text.specs.declared.refusals.Refusal.{Refusal}
use Rattle.rv_text.specs.TextLines.{LineText, lines_of}
use Rattle.rv_model.specs.declared.work.Change.{Change}
use Rattle.rv_model.specs.Machine.{Machine}
use Rattle.rv_bind.specs.Outcomes.{IsRefusal}
use Rattle.rv_bind.proofs.NumberLemmas.{IsBindingsRefusal, bindings_are_numbers, then_numbered, dot_numbered, ltl_numbered, normal_numbered, tableau_numbered}
use Rattle.rv_control.specs.declared.script.Numbered.{Numbered}
use Rattle.rv_control.specs.Trees.{ControlValue}
use Rattle.rv_control.specs.Scripts.{line_said, commands_of_lines, script_of}
use Rattle.rv_header.specs.HeaderText.{header_of}
use Rattle.rv_dot.specs.Dot.{dot_of}
use Rattle.rv_ltl.specs.RuleFile.{ltl_of}
use Rattle.rv_nnf.specs.NormalForm.{normal_of}
use Rattle.rv_tableau.specs.Rows.{tableau_of}
use Rattle.rv_stream.proofs.NumberLemmas.{more_numbered}
use Rattle.rv_model.specs.declared.kind.SpecKind.{SpecKind}
use Rattle.rv_model.specs.declared.kind.SpecKind.TheVariants as kinds
use Rattle.rv_tool.specs.Changes.{asked, asked_in, in_line, changes_of}
use Rattle.rv_tool.specs.HeaderFiles.{header_of_text}
use Rattle.rv_tool.specs.Inputs.{InputValue}
use Rattle.rv_tool.specs.Steps.{IsScriptNumber, IsHeaderNumber}
use Rattle.rv_tool.specs.Tables.{rule_text, table_text}
use Rattle.rv_tool.specs.Watched.{watched_by}

-- ---- control scripts

-- by a number of a script
abbrev pub IsScriptRefusal : Refusal → Type 0
IsScriptRefusal refusal = IsScriptNumber refusal.number

-- it is a refusal
scripts_are_refusals : (refusal : Refusal) → IsScriptRefusal refusal → IsRefusal refusal
scripts_are_refusals refusal is = (let low = is.0 in omega arith, let high = is.1 in omega arith)

-- the commands of lines
commands_numbered : (lines : List LineText) → IfErr (commands_of_lines lines) IsScriptRefusal
unfolding commands_of_lines
commands_numbered [] = tt
commands_numbered (line ∷ later) = then_numbered IsScriptRefusal (line_said line) _ (grind arith) (λ commands. then_numbered IsScriptRefusal (commands_of_lines later) _ (commands_numbered later) (λ more. tt))

-- the commands of a script
pub script_by_step : (text : List ℕ) → IfErr (script_of text) IsScriptRefusal
unfolding script_of
script_by_step text = commands_numbered (lines_of text)

-- what a command asks of a run
asked_numbered : (tree : ControlValue) (n : Numbered) → IfErr (asked_in tree n) IsScriptRefusal
asked_numbered tree n = placed (asked tree n.command) (grind arith)
  where
    placed : (read : Result (ControlValue × Change) Refusal) → IfErr read IsScriptRefusal → IfErr (in_line n.line read) IsScriptRefusal
    placed (Ok done) numbered = tt
    placed (Err refusal) numbered = numbered

-- what a script asks of a run
pub changes_by_step : (tree : ControlValue) (commands : List Numbered) → IfErr (changes_of tree commands) IsScriptRefusal
unfolding changes_of
changes_by_step tree [] = tt
changes_by_step tree (n ∷ ns) = then_numbered IsScriptRefusal (asked_in tree n) _ (asked_numbered tree n) (λ done. then_numbered IsScriptRefusal (changes_of done.0 ns) _ (changes_by_step done.0 ns) (λ changes. tt))

-- both have the numbers of refusals
pub script_numbered : (text : List ℕ) → IfErr (script_of text) IsRefusal
script_numbered text = more_numbered IsScriptRefusal IsRefusal (script_of text) scripts_are_refusals (script_by_step text)

pub changes_numbered : (tree : ControlValue) (commands : List Numbered) → IfErr (changes_of tree commands) IsRefusal
changes_numbered tree commands = more_numbered IsScriptRefusal IsRefusal (changes_of tree commands) scripts_are_refusals (changes_by_step tree commands)

-- ---- specifications, and a watched slot

-- the printed table of a specification
pub table_by_step : (kind : SpecKind) (bytes : List ℕ) → IfErr (table_text kind bytes) IsBindingsRefusal
table_by_step kinds.Da bytes = then_numbered IsBindingsRefusal (dot_of bytes) _ (dot_numbered bytes) (λ automaton. tt)
table_by_step kinds.Ltl bytes =
    then_numbered IsBindingsRefusal (ltl_of bytes) rule_text (ltl_numbered bytes) (λ rule. then_numbered IsBindingsRefusal (normal_of rule.formula) _ (normal_numbered rule.formula) (λ parts. then_numbered IsBindingsRefusal (tableau_of parts) _ (tableau_numbered parts) (λ table. tt)))

-- it has a number of a refusal
pub table_numbered : (kind : SpecKind) (bytes : List ℕ) → IfErr (table_text kind bytes) IsRefusal
table_numbered kind bytes = more_numbered IsBindingsRefusal IsRefusal (table_text kind bytes) (λ refusal. bindings_are_numbers refusal.number) (table_by_step kind bytes)

-- by a number of C tables
abbrev pub IsHeaderRefusal : Refusal → Type 0
IsHeaderRefusal refusal = IsHeaderNumber refusal.number

-- the C tables of an automaton
pub header_by_step : (name bytes : List ℕ) → IfErr (header_of_text name bytes) IsHeaderRefusal
header_by_step name bytes =
    then_numbered IsHeaderRefusal (dot_of bytes) (header_of name) (more_numbered IsBindingsRefusal IsHeaderRefusal (dot_of bytes) (λ refusal is. inl is) (dot_numbered bytes)) (λ (automaton : Machine). grind arith)

-- they have a number of a refusal
pub header_numbered : (name bytes : List ℕ) → IfErr (header_of_text name bytes) IsRefusal
header_numbered name bytes = more_numbered IsHeaderRefusal IsRefusal (header_of_text name bytes) are (header_by_step name bytes)
  where
    are : (refusal : Refusal) → IsHeaderRefusal refusal → IsRefusal refusal
    are refusal (inl is) = bindings_are_numbers refusal.number is
    are refusal (inr is) = (omega arith, omega arith)

-- a slot that is watched
pub watched_numbered : (input : InputValue) (slot : Option ℕ) → IfErr (watched_by input slot) IsRefusal
watched_numbered input slot = grind arith
