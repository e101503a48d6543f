-- A stream of trace text that is fed in pieces, and what a call takes of it: the lines are those of `trace_of`,
-- in order, and only the spans of a line are counted from its own first byte (this project's choice: docs/FORMATS.md, "Trace text").
use Rattle.std.specs.Prelude.{◌≡◌, ◌<◌, ◌⊎◌, ℕ, Bool, true, false, ◌||◌, ◌==◌, nat_lt, List, [], ◌∷◌, ◌++◌, length, take, Option, Some, None, Result, Ok, Err, if◌then◌else◌}
use Rattle.std.specs.List.{All}
use Rattle.rv_text.specs.TextLines.{LineText, is_line_start, lines_from, lines_of}
use Rattle.rv_text.specs.declared.refusals.Refusal.{Refusal}
use Rattle.rv_trace.specs.declared.line.TraceLine.{TraceLine}
use Rattle.rv_trace.specs.declared.trace.TheConstants.{MAX_BYTES}
use Rattle.rv_trace.specs.Lines.{moved_line}
use Rattle.rv_trace.specs.Traces.{reading_of}

-- a stream: all bytes that were fed, how many of them stand in lines that were taken or skipped, the line that the last
-- call took, whether it has ended, and whether there was no more to take since it last grew
pub record Stream : Type 0 where
  pub fed : List ℕ
  pub taken : ℕ
  pub text : List ℕ
  pub ended : Bool
  pub idle : Bool

-- a line end stands in the text
abbrev pub has_line_end : List ℕ → Bool
has_line_end [] = false
has_line_end (byte ∷ bytes) = byte == 10 || has_line_end bytes

-- the text up to its last line end: each byte at which, or behind which, a line end stands
unfoldable pub ended_front : List ℕ → List ℕ
ended_front [] = []
ended_front (byte ∷ bytes) = if has_line_end (byte ∷ bytes) then byte ∷ ended_front bytes else []

-- nothing that follows can change what the stream says: it has ended, or it is too long
abbrev pub is_whole : Bool → List ℕ → Bool
is_whole ended fed = ended || nat_lt MAX_BYTES (length fed)

-- what is read of a stream: up to its last line end, or all of it
abbrev pub part_read : Bool → List ℕ → List ℕ
part_read ended fed = if is_whole ended fed then fed else ended_front fed

-- the line is skipped
abbrev pub IsSkipped : LineText → Type 0
IsSkipped line = reading_of line ≡ Ok None

-- from one text to a longer one, lines come that are skipped, and then these
pub record Adds (before after : List ℕ) (lines : List LineText) : Type 0 where
  pub skipped : List LineText
  pub each : All IsSkipped skipped
  pub are : lines_of after ≡ lines_of before ++ (skipped ++ lines)

-- a line comes next that is not skipped: it is the next line of what is read, and says this where its spans are counted from its own place
pub record TakesLine (before after whole text : List ℕ) (line : TraceLine) : Type 0 where
  pub last : LineText
  pub adds : Adds before after (last ∷ [])
  pub later : List LineText
  pub next : lines_of whole ≡ lines_of after ++ later
  pub says : reading_of last ≡ Ok (Some (moved_line last.from line))
  pub bytes : text ≡ last.bytes

-- a line comes next that is refused
pub record IsRefused (before after whole : List ℕ) (refusal : Refusal) : Type 0 where
  pub adds : Adds before after []
  pub last : LineText
  pub later : List LineText
  pub next : lines_of whole ≡ lines_of after ++ last ∷ later
  pub says : reading_of last ≡ Err refusal

-- no line is left of what is read
pub record IsTaken (before after whole : List ℕ) : Type 0 where
  pub adds : Adds before after []
  pub all : after ≡ whole

-- what a call answers, from the text that was passed before to the one after
abbrev pub AnswersLine : List ℕ → List ℕ → List ℕ → List ℕ → Result (Option TraceLine) Refusal → Type 0
AnswersLine before after whole text (Ok (Some line)) = TakesLine before after whole text line
AnswersLine before after whole text (Ok None) = IsTaken before after whole
AnswersLine before after whole text (Err refusal) = IsRefused before after whole refusal

-- no line is left
abbrev pub is_none_left : Result (Option TraceLine) Refusal → Bool
is_none_left (Ok (Some line)) = false
is_none_left (Ok None) = true
is_none_left (Err refusal) = false

-- a call takes the next line of a stream
pub record TakesNextLine (old new : Stream) (result : Result (Option TraceLine) Refusal) : Type 0 where
  pub fed : new.fed ≡ old.fed
  pub ended : new.ended ≡ old.ended
  pub idle : new.idle ≡ is_none_left result
  pub answers : AnswersLine (take old.taken old.fed) (take new.taken new.fed) (part_read old.ended old.fed) new.text result

-- lines can be read on from here, whatever follows
pub record StandsAt (done : List ℕ) (number : ℕ) : Type 0 where
  pub starts : (more : List ℕ) → 0 < length more → is_line_start (done ++ more) (length done) ≡ true
  pub fronts : (more : List ℕ) → ended_front (done ++ more) ≡ done ++ ended_front more
  pub splits : (more : List ℕ) → lines_of (done ++ more) ≡ lines_of done ++ lines_from (done ++ more) number (length done)

-- so many bytes of a stream are passed: lines can be read on from here, or there are no more
abbrev pub IsPassed : List ℕ → Bool → ℕ → ℕ → Type 0
IsPassed fed ended place number = StandsAt (take place fed) number ⊎ ((ended ≡ true) × (place ≡ length fed))
