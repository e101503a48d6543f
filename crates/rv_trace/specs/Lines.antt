-- What a trace line says: a head, a timestamp as the first or second word after it, an event, and the fields
-- (the text of Linux, Documentation/trace/ftrace.rst; which lines are accepted is this project's choice: docs/FORMATS.md, "Trace text").
use Rattle.std.specs.Prelude.{◌≤◌, ℕ, ◌+◌, ◌-◌, Bool, ◌&&◌, ◌||◌, ◌==◌, nat_lt, nat_le, nat_eq, List, length, Option, Some, None, option_map, option_and_then, Result, Ok, Err, slice_index, if◌then◌else◌, codes}
use Rattle.std.specs.List.{starts_with, ends_with}
use Rattle.std.specs.Option.{ok_or}
use Rattle.rv_text.specs.Places.{run_end, between}
use Rattle.rv_text.specs.Decimal.{number_of}
use Rattle.rv_text.specs.declared.runs.ByteClass.TheVariants as kinds
use Rattle.rv_text.specs.Readings.{and_then, refused_at}
use Rattle.rv_text.specs.declared.numbers.TheConstants.{TRACE_SYNTAX, LOST_EVENTS, TOO_MANY_CPUS}
use Rattle.rv_text.specs.declared.refusals.Refusal.{Refusal}
use Rattle.rv_trace.specs.declared.head.Head.{Head}
use Rattle.rv_trace.specs.declared.parts.LinePart.{LinePart}
use Rattle.rv_trace.specs.declared.parts.Parts.{Parts}
use Rattle.rv_trace.specs.declared.line.TheConstants.{LAST_PID, LAST_CPU}
use Rattle.rv_trace.specs.declared.line.Span.{Span}
use Rattle.rv_trace.specs.declared.line.TraceLine.{TraceLine}
use Rattle.rv_trace.specs.Heads.{head_of}

-- the first word from a place on
unfoldable pub word_at : List ℕ → ℕ → LinePart
word_at text place = let from = run_end kinds.Blank text place in record { from = from; to = run_end kinds.Word text from }

-- digits, then nothing or a point and digits, then a colon, which ends it
unfoldable pub is_stamp : List ℕ → LinePart → Bool
is_stamp text word =
    let whole = run_end kinds.Digit text word.from in
    let part = run_end kinds.Digit text (whole + 1) in
    nat_lt word.from whole
    && (slice_index text whole == 58 && whole + 1 == word.to
    || slice_index text whole == 46 && nat_lt (whole + 1) part && slice_index text part == 58 && part + 1 == word.to)

-- the end of the timestamp: the first word from a place on, or else the second
unfoldable pub stamp_end : List ℕ → ℕ → Option ℕ
stamp_end text place =
    let first = word_at text place in
    let second = word_at text first.to in
    if is_stamp text first then Some first.to else if is_stamp text second then Some second.to else None

-- the name of the event: the first word from a place on, without its last colon
unfoldable pub event_part : List ℕ → ℕ → Option LinePart
event_part text place =
    let word = word_at text place in
    if nat_lt (word.from + 1) word.to && slice_index text (word.to - 1) == 58 then Some (record { from = word.from; to = word.to - 1 }) else None

-- the parts of a line that can be read: its head, and behind the timestamp the name of its event
unfoldable pub parts_of : List ℕ → Option Parts
parts_of text =
    option_and_then (λ head.
    option_and_then (λ place.
    option_map (λ name. record { head = head; name = name }) (event_part text place))
    (stamp_end text (head.close + 2)))
    (head_of text)

-- empty, only blanks, or a comment
unfoldable pub is_skipped : List ℕ → Bool
is_skipped text = run_end kinds.Blank text 0 == length text || slice_index text 0 == 35

-- the kernel's note of lost events
unfoldable pub is_lost : List ℕ → Bool
is_lost text = starts_with nat_eq text (codes "CPU:") && ends_with nat_eq text (codes "EVENTS]")

-- the number that digits spell, where it is at most the limit
unfoldable pub number_up_to : List ℕ → ℕ → Option ℕ
number_up_to digits limit = if nat_le (number_of digits) limit then Some (number_of digits) else None

-- the PID that stands in a head
abbrev pub head_pid : List ℕ → Head → Option ℕ
head_pid text head = number_up_to (between text (head.dash + 1) head.digits) LAST_PID

-- the CPU that stands in a head
abbrev pub cpu_of : List ℕ → Head → Option ℕ
cpu_of text head = number_up_to (between text (head.bracket + 1) head.close) LAST_CPU

-- a line's number, its two numbers and the places of its pieces, counted from the line's own place in the text
abbrev pub line_with : List ℕ → ℕ → ℕ → LinePart → ℕ → ℕ → TraceLine
line_with text from number name pid cpu = record {
  number = number;
  pid = pid;
  cpu = cpu;
  name = record { from = from + name.from; to = from + name.to };
  fields = record { from = from + (name.to + 1); to = from + length text };
}

-- what the parts say
unfoldable pub said : List ℕ → ℕ → ℕ → Parts → Result TraceLine Refusal
said text from number parts =
    and_then (ok_or (head_pid text parts.head) (record { number = TRACE_SYNTAX; line = number })) (λ pid.
    and_then (ok_or (cpu_of text parts.head) (record { number = TOO_MANY_CPUS; line = number })) (λ cpu.
    Ok (line_with text from number parts.name pid cpu)))

-- what a line says that stands at a place of a text, that it is skipped, or its first fault
unfoldable pub line_of : List ℕ → ℕ → ℕ → Result (Option TraceLine) Refusal
line_of text from number =
    if is_skipped text then Ok None else
    if is_lost text then refused_at LOST_EVENTS number else
    and_then (ok_or (parts_of text) (record { number = TRACE_SYNTAX; line = number })) (λ parts.
    and_then (said text from number parts) (λ line. Ok (Some line)))

-- the line's pieces lie in the text, and its CPU is one that there is
pub record LiesIn (text : List ℕ) (line : TraceLine) : Type 0 where
  pub cpu : line.cpu ≤ LAST_CPU
  pub name : line.name.from ≤ line.name.to
  pub name_end : line.name.to ≤ length text
  pub fields : line.fields.from ≤ line.fields.to
  pub fields_end : line.fields.to ≤ length text

-- a piece whose places are counted from another place on
abbrev pub moved_span : ℕ → Span → Span
moved_span by span = record { from = by + span.from; to = by + span.to }

-- a line whose places are counted from another place on
abbrev pub moved_line : ℕ → TraceLine → TraceLine
moved_line by line = record line { name = moved_span by line.name; fields = moved_span by line.fields }

-- a reading whose places are counted from another place on
abbrev pub moved : ℕ → Result (Option TraceLine) Refusal → Result (Option TraceLine) Refusal
moved by (Err fault) = Err fault
moved by (Ok None) = Ok None
moved by (Ok (Some line)) = Ok (Some (moved_line by line))
