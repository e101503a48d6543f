-- What a script of commands on the control files comes to: the texts of its commands in order, each by the files that the commands before it left.
use Rattle.std.specs.Prelude.{ℕ, Bool, true, false, List, [], ◌∷◌, ◌++◌, map, Some, Result, Ok, Err, if◌then◌else◌}
use Rattle.rv_text.specs.declared.refusals.Refusal.{Refusal}
use Rattle.rv_text.specs.Readings.{and_then}
use Rattle.rv_io.specs.Files.{Files}
use Rattle.rv_bind.specs.Values.{BoundValue}
use Rattle.rv_bind.specs.Bound.{bound_of}
use Rattle.rv_bind.specs.Outcomes.{Outcome, accepted, reading, of_file, of_name}
use Rattle.rv_control.specs.declared.script.Command.{Command}
use Rattle.rv_control.specs.declared.script.Command.TheVariants.{Read, Write}
use Rattle.rv_control.specs.declared.script.Numbered.{Numbered}
use Rattle.rv_control.specs.Opening.{opening_switches, watched}
use Rattle.rv_control.specs.Trees.{ControlValue}
use Rattle.rv_control.specs.FileTexts.{file_text}
use Rattle.rv_control.specs.Effects.{effect}
use Rattle.rv_control.specs.Scripts.{script_of}
use Rattle.rv_tool.specs.Output.{refusal_text}

-- the files after a command and its text, or why it is refused
abbrev pub replied : ControlValue → Command → Result (ControlValue × List ℕ) Refusal
replied tree (Read path) = and_then (file_text tree path) (λ text. Ok (tree, text))
replied tree (Write path text append) = and_then (effect tree path text append) (λ after. Ok (after.0, []))

-- what one command comes to: the files after it, its text, and whether it was refused
pub record CommandDone : Type 0 where
  pub tree : ControlValue
  pub text : List ℕ
  pub is_refused : Bool

-- a refused command leaves the files as they are; its refusal names the script and the command's line
abbrev pub done_by : List ℕ → ℕ → ControlValue → Result (ControlValue × List ℕ) Refusal → CommandDone
done_by script line tree (Ok (after, text)) = record { tree = after; text = text; is_refused = false }
done_by script line tree (Err refusal) = record { tree = tree; text = refusal_text (Some script) (record { number = refusal.number; line = line }); is_refused = true }

-- what one command of the script comes to on these files
abbrev pub done_of : List ℕ → ControlValue → Numbered → CommandDone
done_of script tree n = done_by script n.line tree (replied tree n.command)

-- what is printed, and its status
pub record Printed : Type 0 where
  pub text : List ℕ
  pub status : ℕ

-- 2 where a command was refused, else the later commands'
abbrev pub status_with : Bool → ℕ → ℕ
status_with is_refused later = if is_refused then 2 else later

-- a command, and then the later ones
abbrev pub before : CommandDone → Printed → Printed
before done later = record { text = done.text ++ later.text; status = status_with done.is_refused later.status }

-- the commands of a script in order
unfoldable pub session_of : List ℕ → ControlValue → List Numbered → Printed
session_of script tree [] = record { text = []; status = 0 }
session_of script tree (n ∷ ns) = before (done_of script tree n) (session_of script (done_of script tree n).tree ns)

-- the control files of a run that begins
abbrev pub control_value : BoundValue → ControlValue
control_value b = record {
  switches = opening_switches b.monitors;
  reactors = map (λ m. m.reactor) b.monitors;
  containers = b.containers;
  monitors = map watched b.monitors;
  items = b.items;
}

-- what the text of a script comes to: its grammar first, and then each command
abbrev pub session_text : List ℕ → BoundValue → List ℕ → Outcome Printed
session_text script bound text = reading (of_file script (script_of text)) (λ commands. accepted (session_of script (control_value bound) commands))

-- what the script's file comes to, which may be missing
abbrev pub session_in : Files → List ℕ → BoundValue → Outcome Printed
session_in files script bound = of_name files script (session_text script bound)

-- the bindings with each specification as its line is reached, and then the script
abbrev pub control_in : Files → List ℕ → List ℕ → Outcome Printed
control_in files bindings script = reading (bound_of files bindings) (λ bound. session_in files script bound)
