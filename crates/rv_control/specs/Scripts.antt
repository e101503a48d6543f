-- What a control script says (this project's choice: docs/FORMATS.md, "Control files").
use Rattle.std.specs.Prelude.{ℕ, true, false, nat_lt, nat_eq, bytes_eq, List, [], ◌∷◌, Option, Some, None, Result, Ok, if◌then◌else◌, codes}
use Rattle.std.specs.List.{starts_with}
use Rattle.std.specs.Option.{ok_or}
use Rattle.rv_text.specs.Readings.{and_then, onto, refused_at}
use Rattle.rv_text.specs.TextLines.{LineText, lines_of}
use Rattle.rv_text.specs.Words.{words_of}
use Rattle.rv_text.specs.declared.numbers.TheConstants.{CONTROL_SYNTAX}
use Rattle.rv_text.specs.declared.refusals.Refusal.{Refusal}
use Rattle.rv_control.specs.declared.script.Command.{Command}
use Rattle.rv_control.specs.declared.script.Command.TheVariants.{Read, Write}
use Rattle.rv_control.specs.declared.script.Numbered.{Numbered}
use Rattle.rv_control.specs.declared.script.TheConstants.{SCRIPT_LIMIT}

-- VERB PATH [TEXT]
abbrev pub script_command_with : List ℕ → List ℕ → Option (List ℕ) → Option Command
script_command_with verb path None =
    if bytes_eq verb (codes "read") then Some (Read path)
    else if bytes_eq verb (codes "write") then Some (Write path [] false)
    else if bytes_eq verb (codes "append") then Some (Write path [] true) else None
script_command_with verb path (Some text) =
    if bytes_eq verb (codes "write") then Some (Write path text false)
    else if bytes_eq verb (codes "append") then Some (Write path text true) else None

-- the command that words spell: a verb, a path, and a text where one is written
abbrev pub script_command_of : List (List ℕ) → Option Command
script_command_of [] = None
script_command_of (verb ∷ []) = None
script_command_of (verb ∷ path ∷ []) = script_command_with verb path None
script_command_of (verb ∷ path ∷ text ∷ []) = script_command_with verb path (Some text)
script_command_of (verb ∷ path ∷ text ∷ more ∷ words) = None

-- the command of a line by its words; a line without a word, or whose first word begins with `#`, is skipped
abbrev pub commands_of_line : ℕ → List (List ℕ) → Result (List Numbered) Refusal
commands_of_line line [] = Ok []
commands_of_line line (word ∷ words) =
    if starts_with nat_eq word (codes "#") then Ok []
    else and_then (ok_or (script_command_of (word ∷ words)) (record { number = CONTROL_SYNTAX; line = line })) (λ command. Ok (record { line = line; command = command } ∷ []))

-- what a line adds; one that ends past the limit is of no form, whatever it says
abbrev pub line_said : LineText → Result (List Numbered) Refusal
line_said line = if nat_lt SCRIPT_LIMIT line.end then refused_at CONTROL_SYNTAX line.number else commands_of_line line.number (words_of line.bytes)

-- what lines say, one after the other: the first fault decides
unfoldable pub commands_of_lines : List LineText → Result (List Numbered) Refusal
commands_of_lines [] = Ok []
commands_of_lines (line ∷ later) = and_then (line_said line) (λ commands. onto commands (commands_of_lines later))

-- the commands of a script, or the first line that has none of the forms
unfoldable pub script_of : List ℕ → Result (List Numbered) Refusal
script_of text = commands_of_lines (lines_of text)
