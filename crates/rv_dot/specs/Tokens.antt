-- The tokens of a DOT text (this project's subset), from left to right.
use Rattle.std.specs.Prelude.{ℕ, zero, suc, ◌+◌, Bool, true, ◌||◌, ◌&&◌, ◌==◌, List, [], ◌∷◌, ◌++◌, length, take, drop, Option, Some, None, if◌then◌else◌, option_and_then}
use Rattle.std.specs.List.{find}
use Rattle.std.specs.Option.{option_map, option_to_list}
use Rattle.rv_dot.specs.declared.token.Mark.{Mark}
use Rattle.rv_dot.specs.declared.token.Mark.TheVariants.{OpenBrace, CloseBrace, OpenBracket, CloseBracket, Equals, Semicolon, Comma, Arrow}
use Rattle.rv_dot.specs.Runs.{is_word_byte, line_len, word_len, block_len, string_len, begins_with}

infixl 10 ◌>>=◌
-- reads on from what was read
abbrev pub ◌>>=◌ : {A B : Type 0} → Option A → (A → Option B) → Option B
o >>= f = option_and_then f o

-- a token without where it lies in memory; a text is what stands between its quotes
pub data Lexeme : Type 0 where
  sign : Mark → Lexeme
  word : List ℕ → Lexeme
  text : List ℕ → Lexeme

-- what stands at the front, a token or what may stand between tokens, and the bytes after it
abbrev pub Front : Type 0
Front = Option Lexeme × List ℕ

-- nothing, and the rest
abbrev pub gap : List ℕ → Option Front
gap rest = Some (None, rest)

-- this token, and the rest
abbrev pub one : Lexeme → List ℕ → Option Front
one found rest = Some (Some found, rest)

-- the marks of one byte
abbrev pub byte_marks : List (ℕ × Mark)
byte_marks = (123, OpenBrace) ∷ (125, CloseBrace) ∷ (91, OpenBracket) ∷ (93, CloseBracket) ∷ (61, Equals) ∷ (59, Semicolon) ∷ (44, Comma) ∷ []

-- the mark of the byte
abbrev pub mark_of : ℕ → Option Mark
mark_of b = option_map (λ p. p.1) (find (λ p. b == p.0) byte_marks)

-- behind a slash
unfoldable pub comment_of : List ℕ → Option Front
comment_of rest =
    if begins_with 47 rest then gap (drop (line_len rest) rest)
    else (if begins_with 42 rest then (block_len (drop 1 rest) >>= (λ n. gap (drop (n + 3) rest)))
    else None)

-- behind a quote
unfoldable pub string_of : List ℕ → Option Front
string_of rest = string_len 34 rest >>= (λ n. one (text (take n rest)) (drop (n + 1) rest))

-- at the front of a text; whether its first byte is the first of a line decides on `#`
unfoldable pub front_of : Bool → List ℕ → Option Front
front_of starts [] = None
front_of starts (b ∷ rest) =
    if b == 32 || b == 9 || b == 13 || b == 10 then gap rest
    else (if b == 35 && starts then gap (drop (line_len rest) rest)
    else (if b == 47 then comment_of rest
    else (if b == 34 then string_of rest
    else (if b == 45 then (if begins_with 62 rest then one (sign Arrow) (drop 1 rest) else None)
    else (if is_word_byte b then one (word (take (word_len rest + 1) (b ∷ rest))) (drop (word_len rest) rest)
    else option_map (λ mark. (Some (sign mark), rest)) (mark_of b))))))

-- the tokens of a text of at most so many bytes
unfoldable pub tokens_within : ℕ → Bool → List ℕ → Option (List Lexeme)
tokens_within n starts [] = Some []
tokens_within zero starts (b ∷ rest) = None
tokens_within (suc n) starts (b ∷ rest) = do
  front ← front_of starts (b ∷ rest)
  others ← tokens_within n (b == 10) front.1
  Some (option_to_list front.0 ++ others)

-- the tokens of a text
abbrev pub tokens_of : List ℕ → Option (List Lexeme)
tokens_of bytes = tokens_within (length bytes) true bytes
