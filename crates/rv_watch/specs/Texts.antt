-- What is printed of the words of a slot.
use Rattle.std.specs.Prelude.{ℕ, List, [], ◌∷◌, ◌++◌, codes, decimal, flat_map}
use Rattle.rv_word.specs.Words.{set_in, atoms_in}

-- a word's line: its set of rows and its levels
abbrev pub word_line : ℕ → List ℕ
word_line word = codes "watch: set " ++ decimal (set_in word) ++ codes " atoms " ++ decimal (atoms_in word) ++ 10 ∷ []

-- a line for each word
abbrev pub words_text : List ℕ → List ℕ
words_text words = flat_map word_line words
