-- The words of a line: the longest runs of bytes that are no blanks.
use Rattle.std.specs.Prelude.{ℕ, ◌-◌, Bool, not, ◌&&◌, ◌||◌, ◌==◌, List, map, length, slice_index}
use Rattle.rv_text.specs.Places.{run_end, between, is_blank}
use Rattle.rv_text.specs.TextLines.{select}
use Rattle.rv_text.specs.declared.runs.ByteClass.TheVariants as kinds

-- a word starts where no blank stands, at the beginning or directly after a blank
abbrev pub is_word_start : List ℕ → ℕ → Bool
is_word_start text place = not (is_blank (slice_index text place)) && (place == 0 || is_blank (slice_index text (place - 1)))

-- the bytes from a place up to the next blank or the end
abbrev pub word_from : List ℕ → ℕ → List ℕ
word_from text from = between text from (run_end kinds.Word text from)

-- the words that start from a place on
unfoldable pub words_from : List ℕ → ℕ → List (List ℕ)
words_from text place = map (word_from text) (select (is_word_start text) place (length text - place))

-- all words of a line
unfoldable pub words_of : List ℕ → List (List ℕ)
words_of text = words_from text 0
