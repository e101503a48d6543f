-- What a rule file's text is made of: words and marks, and what may stand around them.
use Rattle.std.specs.Prelude.{◌≡◌, ℕ, ◌<◌, true, false, nat_eq, List, [], ◌∷◌, ◌++◌, length}
use Rattle.std.specs.List.{AllByRecursion}
use Rattle.rv_ltl.specs.Pieces.{is_whitespace, is_mark, is_word, goes_on}

-- a blank or a line end, a comment, a mark, or a word
pub data Part : Type 0 where
  blank : ℕ → Part
  -- what stands behind its `#`
  comment : List ℕ → Part
  mark : ℕ → Part
  word : List ℕ → Part

-- the bytes of a part
abbrev pub part_bytes : Part → List ℕ
part_bytes (blank b) = b ∷ []
part_bytes (comment c) = 35 ∷ c
part_bytes (mark b) = b ∷ []
part_bytes (word w) = w

-- nothing of the line follows
abbrev pub EndsLine : List ℕ → Type 0
EndsLine [] = Unit {0}
EndsLine (b ∷ rest) = nat_eq b 10 ≡ true

-- no line end
abbrev pub IsOfLine : List ℕ → Type 0
IsOfLine c = AllByRecursion (λ b. nat_eq b 10 ≡ false) c

-- letters, digits and _, one or more
abbrev pub IsWord : List ℕ → Type 0
IsWord w = AllByRecursion (λ b. is_word b ≡ true) w × (0 < length w)

-- such a part may stand before `rest`: a comment goes on to the end of its line, and a word as far as it can
abbrev pub IsPartBefore : List ℕ → Part → Type 0
IsPartBefore rest (blank b) = is_whitespace b ≡ true
IsPartBefore rest (comment c) = IsOfLine c × EndsLine rest
IsPartBefore rest (mark b) = is_mark b ≡ true
IsPartBefore rest (word w) = IsWord w × (goes_on rest ≡ false)

-- the text is made of these parts
abbrev pub SplitsInto : List ℕ → List Part → Type 0
SplitsInto bytes [] = bytes ≡ []
SplitsInto bytes (part ∷ parts) = (rest : List ℕ) × (bytes ≡ part_bytes part ++ rest) × IsPartBefore rest part × SplitsInto rest parts

-- the marks and the words among the parts
abbrev pub pieces_in : List Part → List (List ℕ)
pieces_in [] = []
pieces_in (blank b ∷ parts) = pieces_in parts
pieces_in (comment c ∷ parts) = pieces_in parts
pieces_in (mark b ∷ parts) = (b ∷ []) ∷ pieces_in parts
pieces_in (word w ∷ parts) = w ∷ pieces_in parts
