-- A whole trace: its lines in order, or the first fault.
use Rattle.std.specs.Prelude.{ℕ, Bool, ◌||◌, nat_lt, List, [], ◌∷◌, Option, option_to_list, Result, Ok, if◌then◌else◌}
use Rattle.rv_text.specs.Readings.{and_then, onto, refused_at}
use Rattle.rv_text.specs.TextLines.{LineText, lines_of}
use Rattle.rv_text.specs.declared.numbers.TheConstants.{TOO_LONG}
use Rattle.rv_text.specs.declared.refusals.Refusal.{Refusal}
use Rattle.rv_trace.specs.declared.line.TraceLine.{TraceLine}
use Rattle.rv_trace.specs.declared.trace.TheConstants.{MAX_LINES, MAX_BYTES}
use Rattle.rv_trace.specs.Lines.{line_of}

-- the line has too high a number, or ends too late, its line end included
abbrev pub is_too_long : LineText → Bool
is_too_long line = nat_lt MAX_LINES line.number || nat_lt MAX_BYTES line.end

-- what a line of a trace says
unfoldable pub reading_of : LineText → Result (Option TraceLine) Refusal
reading_of line = if is_too_long line then refused_at TOO_LONG line.number else line_of line.bytes line.from line.number

-- what lines say, one after the other, but for those that are skipped: the first fault decides
unfoldable pub all_read : List LineText → Result (List TraceLine) Refusal
all_read [] = Ok []
all_read (line ∷ later) = and_then (reading_of line) (λ read. onto (option_to_list read) (all_read later))

-- the lines of the text that are not skipped, or the first fault
unfoldable pub trace_of : List ℕ → Result (List TraceLine) Refusal
trace_of text = all_read (lines_of text)
