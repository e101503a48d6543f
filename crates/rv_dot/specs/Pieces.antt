-- What a DOT text is made of (this project's subset): tokens, and what may stand between them.
use Rattle.std.specs.Prelude.{ℕ, ◌<◌, Bool, true, false, ◌||◌, ◌==◌, List, [], ◌∷◌, ◌++◌, length, Option, Some, None, ◌≡◌}
use Rattle.std.specs.List.{flat_map, AllByRecursion}
use Rattle.std.specs.Option.{option_to_list}
use Rattle.rv_dot.specs.declared.token.Mark.{Mark}
use Rattle.rv_dot.specs.declared.token.Mark.TheVariants.{OpenBrace, CloseBrace, OpenBracket, CloseBracket, Equals, Semicolon, Comma, Arrow}
use Rattle.rv_dot.specs.Tokens.{Lexeme, sign, word, text}
use Rattle.rv_dot.specs.Runs.{is_word_byte, begins_with}

-- a byte between tokens, a comment, a `#` line, or a token
pub data Piece : Type 0 where
  blank : ℕ → Piece
  line_comment : List ℕ → Piece
  block_comment : List ℕ → Piece
  hash_line : List ℕ → Piece
  unit : Lexeme → Piece

-- the bytes of a mark
abbrev pub mark_bytes : Mark → List ℕ
mark_bytes OpenBrace = 123 ∷ []
mark_bytes CloseBrace = 125 ∷ []
mark_bytes OpenBracket = 91 ∷ []
mark_bytes CloseBracket = 93 ∷ []
mark_bytes Equals = 61 ∷ []
mark_bytes Semicolon = 59 ∷ []
mark_bytes Comma = 44 ∷ []
mark_bytes Arrow = 45 ∷ 62 ∷ []

-- the bytes of a token
abbrev pub lexeme_bytes : Lexeme → List ℕ
lexeme_bytes (sign mark) = mark_bytes mark
lexeme_bytes (word w) = w
lexeme_bytes (text t) = 34 ∷ t ++ 34 ∷ []

-- the bytes of a piece
abbrev pub piece_bytes : Piece → List ℕ
piece_bytes (blank b) = b ∷ []
piece_bytes (line_comment c) = 47 ∷ 47 ∷ c
piece_bytes (block_comment c) = 47 ∷ 42 ∷ c ++ 42 ∷ 47 ∷ []
piece_bytes (hash_line c) = 35 ∷ c
piece_bytes (unit t) = lexeme_bytes t

-- a blank, a line end or a carriage return
abbrev pub is_gap_byte : ℕ → Bool
is_gap_byte b = b == 32 || b == 9 || b == 13 || b == 10

-- nothing of the line follows
abbrev pub EndsLine : List ℕ → Type 0
EndsLine [] = Unit {0}
EndsLine (b ∷ rest) = (b == 10) ≡ true

-- no byte of a word follows
abbrev pub EndsWord : List ℕ → Type 0
EndsWord [] = Unit {0}
EndsWord (b ∷ rest) = is_word_byte b ≡ false

-- no line end
abbrev pub IsOfLine : List ℕ → Type 0
IsOfLine c = AllByRecursion (λ b. (b == 10) ≡ false) c

-- no star has a slash behind it
abbrev pub HasNoEnd : List ℕ → Type 0
HasNoEnd [] = Unit {0}
HasNoEnd (b ∷ c) = ((b == 42) ≡ true → begins_with 47 c ≡ false) × HasNoEnd c

-- on one line, each quote directly behind a backslash, and no backslash at the end; `before` is the byte before it
abbrev pub IsString : ℕ → List ℕ → Type 0
IsString before [] = (before == 92) ≡ false
IsString before (b ∷ t) = ((b == 10) ≡ false) × ((b == 34) ≡ true → (before == 92) ≡ true) × IsString b t

-- such a piece may stand before `rest`; whether it is the first of its line decides on `#`
abbrev pub IsPieceAt : Bool → Piece → List ℕ → Type 0
IsPieceAt starts (blank b) rest = is_gap_byte b ≡ true
IsPieceAt starts (line_comment c) rest = IsOfLine c × EndsLine rest
IsPieceAt starts (block_comment c) rest = HasNoEnd c
IsPieceAt starts (hash_line c) rest = (starts ≡ true) × IsOfLine c × EndsLine rest
IsPieceAt starts (unit (sign mark)) rest = Unit {0}
IsPieceAt starts (unit (word w)) rest = AllByRecursion (λ b. is_word_byte b ≡ true) w × (0 < length w) × EndsWord rest
IsPieceAt starts (unit (text t)) rest = IsString 34 t

-- a line begins behind it
abbrev pub ends_line : Piece → Bool
ends_line (blank b) = b == 10
ends_line other = false

-- the text is made of these pieces
abbrev pub SplitsInto : Bool → List ℕ → List Piece → Type 0
SplitsInto starts bytes [] = bytes ≡ []
SplitsInto starts bytes (p ∷ ps) = (rest : List ℕ) × (bytes ≡ piece_bytes p ++ rest) × IsPieceAt starts p rest × SplitsInto (ends_line p) rest ps

-- the token of a piece, if it is one
abbrev pub token_in : Piece → Option Lexeme
token_in (unit t) = Some t
token_in other = None

-- the tokens of pieces
abbrev pub tokens_in : List Piece → List Lexeme
tokens_in ps = flat_map (λ p. option_to_list (token_in p)) ps
