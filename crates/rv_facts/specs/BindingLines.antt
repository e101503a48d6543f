-- On which lines the bindings say what: by the first word of a line, and by the names behind it.
use Rattle.std.specs.Prelude.{◌≡◌, ℕ, ◌&&◌, List, [], ◌∷◌, bytes_eq, filter, filter_map, map, codes, Option, Some, None, if◌then◌else◌}
use Rattle.rv_text.specs.TextLines.{LineText, lines_of}
use Rattle.rv_text.specs.Words.{words_of}
use Rattle.rv_facts.specs.declared.lines.BindingLines.{BindingLines}
use Rattle.rv_facts.specs.declared.lines.Begun.{Begun}
use Rattle.rv_facts.specs.declared.lines.Named.{Named}

-- ---- one line

-- its number, where its first word is this one
abbrev pub line_so : List ℕ → ℕ → List (List ℕ) → Option ℕ
line_so first line [] = None
line_so first line (word ∷ words) = if bytes_eq word first then Some line else None

-- the name behind its first word, where that is this one
abbrev pub named_on : List ℕ → ℕ → List (List ℕ) → Option Named
named_on first line (word ∷ name ∷ words) = if bytes_eq word first then Some (record { monitor = name; line = line }) else None
named_on first line _ = None

-- the two names behind its first word, where that is this one
abbrev pub begun_on : List ℕ → ℕ → List (List ℕ) → Option Begun
begun_on first line (word ∷ name ∷ atom ∷ words) = if bytes_eq word first then Some (record { monitor = name; atom = atom; line = line }) else None
begun_on first line _ = None

-- ---- all lines of a text

-- the lines with this first word
abbrev pub line_with : List ℕ → LineText → Option ℕ
line_with first line = line_so first line.number (words_of line.bytes)

abbrev pub named_in : List ℕ → LineText → Option Named
named_in first line = named_on first line.number (words_of line.bytes)

abbrev pub begun_in : List ℕ → LineText → Option Begun
begun_in first line = begun_on first line.number (words_of line.bytes)

-- the lines of a text
pub record AreLinesOf (text : List ℕ) (lines : BindingLines) : Type 0 where
  pub monitors : lines.monitors.items ≡ filter_map (line_with (codes "monitor")) (lines_of text)
  pub rules : lines.rules.items ≡ filter_map (line_with (codes "on")) (lines_of text)
  pub reacts : lines.reacts.items ≡ filter_map (named_in (codes "react")) (lines_of text)
  pub offs : lines.offs.items ≡ filter_map (named_in (codes "off")) (lines_of text)
  pub begins : lines.begins.items ≡ filter_map (begun_in (codes "begin")) (lines_of text)

-- ---- lines about a monitor, by its name

-- those of the lines that name it
abbrev pub lines_named : List ℕ → List Named → List ℕ
lines_named name lines = map (λ l. l.line) (filter (λ l. bytes_eq l.monitor name) lines)

-- those that begin with the atom on
abbrev pub begin_lines : List ℕ → List ℕ → List Begun → List ℕ
begin_lines name atom lines = map (λ l. l.line) (filter (λ l. bytes_eq l.monitor name && bytes_eq l.atom atom) lines)
