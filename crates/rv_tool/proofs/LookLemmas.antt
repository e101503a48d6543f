-- Tables, C tables and scripts are read no further than one byte past the limit of their files.
use Rattle.std.proofs.Common.{ℕ, List, ap}
use Rattle.rv_model.specs.declared.kind.SpecKind.{SpecKind}
use Rattle.rv_model.specs.declared.kind.SpecKind.TheVariants as kinds
use Rattle.rv_dot.specs.Dot.{dot_of}
use Rattle.rv_ltl.specs.RuleFile.{ltl_of}
use Rattle.rv_bind.specs.Values.{BoundValue}
use Rattle.rv_bind.specs.Outcomes.{accepted, reading, of_file}
use Rattle.rv_bind.proofs.FrontLemmas.{LooksAtFront, dot-looks, ltl-looks, then-looks}
use Rattle.rv_control.specs.Trees.{ControlValue}
use Rattle.rv_control.proofs.ScriptFront.{script-looks}
use Rattle.rv_tool.specs.Tables.{table_text}
use Rattle.rv_tool.specs.HeaderFiles.{header_of_text}
use Rattle.rv_tool.specs.Sessions.{control_value, session_of, session_text}
use Rattle.rv_tool.specs.Changes.{changes_of, changes_text}

-- a specification
pub table-looks : (kind : SpecKind) (file : List ℕ) → LooksAtFront (λ text. of_file file (table_text kind text))
table-looks kinds.Da file text = ap (of_file file) (then-looks dot_of _ dot-looks text)
table-looks kinds.Ltl file text = ap (of_file file) (then-looks ltl_of _ ltl-looks text)

-- an automaton
pub header-looks : (name file : List ℕ) → LooksAtFront (λ text. of_file file (header_of_text name text))
header-looks name file text = ap (of_file file) (then-looks dot_of _ dot-looks text)

-- a script whose texts are printed
pub session-looks : (script : List ℕ) (bound : BoundValue) → LooksAtFront (session_text script bound)
session-looks script bound text = ap (λ read. reading (of_file script read) (λ commands. accepted (session_of script (control_value bound) commands))) (script-looks text)

-- a script whose changes are asked
pub changes-looks : (script : List ℕ) (tree : ControlValue) → LooksAtFront (changes_text script tree)
changes-looks script tree text = ap (λ read. reading (of_file script read) (λ commands. of_file script (changes_of tree commands))) (script-looks text)
