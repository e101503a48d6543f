-- What a control script asks of a run: the changes of its writes in order, each by the files that the writes before it left.
use Rattle.std.specs.Prelude.{ℕ, List, [], ◌∷◌, Result, Ok, Err, if◌then◌else◌}
use Rattle.rv_text.specs.declared.numbers.TheConstants.{INVALID}
use Rattle.rv_text.specs.declared.refusals.Refusal.{Refusal}
use Rattle.rv_text.specs.Readings.{and_then, refused_with, refused_at}
use Rattle.rv_io.specs.Files.{Files}
use Rattle.rv_model.specs.declared.work.Change.{Change}
use Rattle.rv_bind.specs.Outcomes.{Outcome, accepted, reading, of_file, of_name}
use Rattle.rv_control.specs.declared.script.Command.{Command}
use Rattle.rv_control.specs.declared.script.Command.TheVariants.{Read, Write}
use Rattle.rv_control.specs.declared.script.Numbered.{Numbered}
use Rattle.rv_control.specs.Trees.{ControlValue}
use Rattle.rv_control.specs.Paths.{is_reactors}
use Rattle.rv_control.specs.Effects.{effect}
use Rattle.rv_control.specs.Scripts.{script_of}
use Rattle.rv_tool.specs.Inputs.{InputValue, run_input}
use Rattle.rv_tool.specs.Sessions.{control_value}

-- the files after a command and its change; a run prints no file, and its reactors are those of its bindings
abbrev pub asked : ControlValue → Command → Result (ControlValue × Change) Refusal
asked tree (Read path) = refused_with INVALID
asked tree (Write path text append) = if is_reactors tree path then refused_with INVALID else effect tree path text append

-- a refusal names the command's line
abbrev pub in_line : {X : Type 0} → ℕ → Result X Refusal → Result X Refusal
in_line line (Ok x) = Ok x
in_line line (Err refusal) = refused_at refusal.number line

-- what a command of the script asks, with its line where it is refused
abbrev pub asked_in : ControlValue → Numbered → Result (ControlValue × Change) Refusal
asked_in tree n = in_line n.line (asked tree n.command)

-- a change, and then the later ones
abbrev pub change_before : Change → Result (List Change) Refusal → Result (List Change) Refusal
change_before change later = and_then later (λ changes. Ok (change ∷ changes))

-- the changes of a script in order, or the first command that is refused
unfoldable pub changes_of : ControlValue → List Numbered → Result (List Change) Refusal
changes_of tree [] = Ok []
changes_of tree (n ∷ ns) = and_then (asked_in tree n) (λ done. change_before done.1 (changes_of done.0 ns))

-- what the text of a script comes to: its grammar first, and then each command
abbrev pub changes_text : List ℕ → ControlValue → List ℕ → Outcome (List Change)
changes_text script tree text = reading (of_file script (script_of text)) (λ commands. of_file script (changes_of tree commands))

-- what the script's file comes to, which may be missing
abbrev pub changes_in : Files → List ℕ → ControlValue → Outcome (List Change)
changes_in files script tree = of_name files script (changes_text script tree)

-- the bindings and the trace, and then the script that runs beside the CPUs
abbrev pub input_beside : Files → List ℕ → List ℕ → List ℕ → Outcome InputValue
input_beside files bindings trace script =
    reading (run_input files bindings trace) (λ input. reading (changes_in files script (control_value input.bound)) (λ changes. accepted (record input { changes = changes })))
