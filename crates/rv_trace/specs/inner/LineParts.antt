-- The parts of a line as they are looked for: a timestamp by the place where it begins, and numbers that may stand for others.
use Rattle.std.specs.Prelude.{ℕ, ◌+◌, Bool, false, ◌==◌, List, Option, Some, None, if◌then◌else◌}
use Rattle.rv_text.specs.Decimal.{number_of}
use Rattle.rv_text.specs.Places.{run_end, between}
use Rattle.rv_text.specs.declared.runs.ByteClass.TheVariants as kinds
use Rattle.rv_trace.specs.declared.head.Head.{Head}
use Rattle.rv_trace.specs.declared.parts.LinePart.{LinePart}
use Rattle.rv_trace.specs.Lines.{is_stamp}
use Rattle.rv_trace.specs.inner.Runs.{CountsAs}

-- the word that begins at a place
abbrev pub word_part : List ℕ → ℕ → LinePart
word_part text from = record { from = from; to = run_end kinds.Word text from }

-- whether this is the end, where there is one
abbrev pub is_that_end : Option ℕ → ℕ → Bool
is_that_end None to = false
is_that_end (Some end) to = end == to

-- the end of the word that begins at a place, where it is a timestamp
abbrev pub end_from : List ℕ → ℕ → Option ℕ
end_from text from = if is_stamp text (word_part text from) then Some (run_end kinds.Word text from) else None

-- these stand for the numbers of a head
pub record HasHeadNumbers (text : List ℕ) (head : Head) (pid cpu : ℕ) : Type 0 where
  pub tells_pid : CountsAs pid (number_of (between text (head.dash + 1) head.digits))
  pub tells_cpu : CountsAs cpu (number_of (between text (head.bracket + 1) head.close))
