-- What the lines of a text tell, events or not: their ends, and the kernel's comment on its buffer.
use Rattle.std.specs.Prelude.{◌≡◌, ℕ, ◌+◌, Bool, ◌==◌, nat_eq, nat_lt, List, [], ◌∷◌, ◌++◌, length, map, filter, filter_map, codes, bytes_eq, Option, None, option_map, option_and_then, slice_index, slice_get, if◌then◌else◌}
use Rattle.std.specs.List.{ends_with}
use Rattle.rv_text.specs.Decimal.{decimal_of}
use Rattle.rv_text.specs.declared.runs.ByteClass.TheVariants as kinds
use Rattle.rv_text.specs.Places.{between, run_end}
use Rattle.rv_text.specs.TextLines.{LineText}
use Rattle.rv_text.specs.Words.{words_of}
pub use Rattle.rv_matches.specs.declared.text_facts.Entries.{Entries}

-- the first of some, and how many they are
pub record FirstOf (X : Type 0) : Type 0 where
  pub first : Option X
  pub count : ℕ

abbrev pub first_of : {X : Type 0} → List X → FirstOf X
first_of xs = record { first = slice_get xs 0; count = length xs }

-- ---- line ends

-- the lines that end in a carriage return
abbrev pub is_returning : LineText → Bool
is_returning line = ends_with nat_eq line.bytes (13 ∷ [])

abbrev pub returning_lines : List LineText → List LineText
returning_lines lines = filter is_returning lines

-- the first of them by its number, and how many they are
abbrev pub returns_of : List LineText → FirstOf ℕ
returns_of lines = first_of (map (λ line. line.number) (returning_lines lines))

-- ---- the comment on the buffer

-- both numbers, where both are there
abbrev pub entries_by : ℕ → Option ℕ → Option ℕ → Option Entries
entries_by line kept written = option_and_then (λ k. option_map (λ w. record { line = line; kept = k; written = w }) written) kept

-- two numbers with a slash between them
abbrev pub entries_in : ℕ → List ℕ → Option Entries
entries_in line word = let slash = run_end kinds.Digit word 0 in
    if slice_index word slash == 47 then entries_by line (decimal_of (between word 0 slash)) (decimal_of (between word (slash + 1) (length word))) else None

-- what the words behind the name say
abbrev pub numbers_said : ℕ → List (List ℕ) → Option Entries
numbers_said line [] = None
numbers_said line (numbers ∷ words) = entries_in line numbers

-- what the words behind the sign say, if they begin with the name
abbrev pub name_said : ℕ → List (List ℕ) → Option Entries
name_said line [] = None
name_said line (name ∷ words) = if bytes_eq name (codes "entries-in-buffer/entries-written:") then numbers_said line words else None

-- what a line with these words says of the buffer
abbrev pub entries_said : ℕ → List (List ℕ) → Option Entries
entries_said line [] = None
entries_said line (sign ∷ words) = if bytes_eq sign (codes "#") then name_said line words else None

-- what a comment says of the buffer
abbrev pub entries_on : LineText → Option Entries
entries_on line = if slice_index line.bytes 0 == 35 then entries_said line.number (words_of line.bytes) else None

-- more was written than is left
abbrev pub is_overwritten : Entries → Bool
is_overwritten entries = nat_lt entries.kept entries.written

-- the comments that say so
abbrev pub overwritten : List LineText → List Entries
overwritten lines = filter is_overwritten (filter_map entries_on lines)

-- ---- the lines of the text

-- how many lines there are, the first comment on an overwritten buffer, and the numbers of the lines that end in a carriage return
pub record TextFactsValue : Type 0 where
  pub lines : ℕ
  pub overwritten : Option Entries
  pub returns : FirstOf ℕ

abbrev pub text_facts : List LineText → TextFactsValue
text_facts lines = record { lines = length lines; overwritten = slice_get (overwritten lines) 0; returns = returns_of lines }

-- what was told of any lines becomes what is told of these and one more
abbrev pub TellsTextLine : LineText → TextFactsValue → TextFactsValue → Type 0
TellsTextLine line old new = (lines : List LineText) → old ≡ text_facts lines → new ≡ text_facts (lines ++ line ∷ [])
