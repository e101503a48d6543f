-- A line of a stream that is taken, skipped or not.
use Rattle.std.specs.Prelude.{◌≡◌, ℕ, Bool, true, false, List, [], ◌∷◌, ◌++◌, take, Option, Some, None, Result, Ok, Err, IfSome}
use Rattle.rv_text.specs.TextLines.{LineText, lines_of}
use Rattle.rv_text.specs.declared.refusals.Refusal.{Refusal}
use Rattle.rv_trace.specs.declared.taken.TakenLine.{TakenLine}
use Rattle.rv_trace.specs.Lines.{LiesIn, line_of, moved}
use Rattle.rv_trace.specs.Streams.{Stream, IsRefused, IsTaken, part_read}
use Rattle.rv_trace.specs.Traces.{reading_of}

-- the text of a line that was taken says what was read on it, and the spans lie in it
pub record IsReadOn (text : List ℕ) (taken : TakenLine) : Type 0 where
  pub says : line_of text 0 taken.number ≡ Ok taken.found
  pub lies : IfSome taken.found (LiesIn text)

-- the line has this number and these bytes, and says this, where spans are counted from its own place
pub record IsTakenLine (text : List ℕ) (taken : TakenLine) (line : LineText) : Type 0 where
  pub number : line.number ≡ taken.number
  pub bytes : line.bytes ≡ text
  pub says : reading_of line ≡ moved line.from (Ok taken.found)

-- a line comes next: it is the next line of what is read
pub record TakesAny (before after whole text : List ℕ) (taken : TakenLine) : Type 0 where
  pub last : LineText
  pub adds : lines_of after ≡ lines_of before ++ last ∷ []
  pub later : List LineText
  pub next : lines_of whole ≡ lines_of after ++ later
  pub is : IsTakenLine text taken last

-- what a call answers, from the text that was passed before to the one after: where it gives no line, it passes none
abbrev pub AnswersAny : List ℕ → List ℕ → List ℕ → List ℕ → Result (Option TakenLine) Refusal → Type 0
AnswersAny before after whole text (Ok (Some taken)) = TakesAny before after whole text taken
AnswersAny before after whole text (Ok None) = (after ≡ before) × IsTaken before after whole
AnswersAny before after whole text (Err refusal) = (after ≡ before) × IsRefused before after whole refusal

-- no line is left, not even one that is skipped
abbrev pub is_none_taken : Result (Option TakenLine) Refusal → Bool
is_none_taken (Ok (Some taken)) = false
is_none_taken (Ok None) = true
is_none_taken (Err refusal) = false

-- a call takes the next line of a stream, skipped or not
pub record TakesNextAny (old new : Stream) (result : Result (Option TakenLine) Refusal) : Type 0 where
  pub fed : new.fed ≡ old.fed
  pub ended : new.ended ≡ old.ended
  pub idle : new.idle ≡ is_none_taken result
  pub answers : AnswersAny (take old.taken old.fed) (take new.taken new.fed) (part_read old.ended old.fed) new.text result
