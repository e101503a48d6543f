-- The lines of a text, by the places where they start, and the words of a line.
use Rattle.std.specs.Prelude.{ℕ, zero, suc, ◌+◌, ◌-◌, Bool, ◌||◌, ◌==◌, nat_lt, min, List, [], ◌∷◌, length, slice_index, if◌then◌else◌}
use Rattle.rv_text.specs.Places.{least, between}
use Rattle.rv_text.specs.declared.cursor.TextLine.{TextLine}

-- those of `count` places from `from` on that pass the test
unfoldable pub select : (ℕ → Bool) → ℕ → ℕ → List ℕ
select test from zero = []
select test from (suc count) = if test from then from ∷ select test (from + 1) count else select test (from + 1) count

-- a line starts at the beginning and behind each line end
abbrev pub is_line_start : List ℕ → ℕ → Bool
is_line_start text place = place == 0 || slice_index text (place - 1) == 10

-- where a line ends: at the next line end, or at the end of the text
unfoldable pub line_end : List ℕ → ℕ → ℕ
line_end text from = least (λ place. slice_index text place == 10) from (length text - from)

-- a line of a text: its number, the place where it starts, its bytes, and where it ends, its line end included
pub record LineText : Type 0 where
  pub number : ℕ
  pub from : ℕ
  pub bytes : List ℕ
  pub end : ℕ

-- the line that a reader was given
abbrev pub line_text : TextLine → LineText
line_text line = record { number = line.number; from = line.from; bytes = line.bytes.now; end = line.end }

-- the line that starts here
abbrev pub line_here : List ℕ → ℕ → ℕ → LineText
line_here text number from = record {
  number = number;
  from = from;
  bytes = between text from (line_end text from);
  end = min (line_end text from + 1) (length text);
}

-- the next line's number, which stands still at the end of 32 bits
abbrev pub next_number : ℕ → ℕ
next_number number = if nat_lt number 4294967295 then number + 1 else number

-- the lines that start at these places, numbered from `number` on
unfoldable pub lines_at : List ℕ → ℕ → List ℕ → List LineText
lines_at text number [] = []
lines_at text number (from ∷ later) = line_here text number from ∷ lines_at text (next_number number) later

-- the lines that start from a place on
unfoldable pub lines_from : List ℕ → ℕ → ℕ → List LineText
lines_from text number from = lines_at text number (select (is_line_start text) from (length text - from))

-- all lines of a text, numbered from 1 on
unfoldable pub lines_of : List ℕ → List LineText
lines_of text = lines_from text 1 0
