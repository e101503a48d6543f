-- Marks among tokens.
use Rattle.std.specs.Prelude.{Bool, true, false, List, [], ◌∷◌, Option, Some, None, if◌then◌else◌}
use Rattle.rv_dot.specs.declared.token.Mark.{Mark}
use Rattle.rv_dot.specs.declared.token.Mark.TheVariants.{OpenBrace, CloseBrace, OpenBracket, CloseBracket, Equals, Semicolon, Comma, Arrow}
use Rattle.rv_dot.specs.Tokens.{Lexeme, sign, word}

-- the marks are the same
abbrev pub mark_eq : Mark → Mark → Bool
mark_eq OpenBrace OpenBrace = true
mark_eq CloseBrace CloseBrace = true
mark_eq OpenBracket OpenBracket = true
mark_eq CloseBracket CloseBracket = true
mark_eq Equals Equals = true
mark_eq Semicolon Semicolon = true
mark_eq Comma Comma = true
mark_eq Arrow Arrow = true
mark_eq _ _ = false

-- the mark stands at the front
unfoldable pub begins : Mark → List Lexeme → Bool
begins mark [] = false
begins mark (sign found ∷ rest) = mark_eq mark found
begins mark (other ∷ rest) = false

-- the tokens behind this mark, which has to stand at the front
unfoldable pub expects : Mark → List Lexeme → Option (List Lexeme)
expects mark [] = None
expects mark (sign found ∷ rest) = if mark_eq mark found then Some rest else None
expects mark (other ∷ rest) = None

-- the tokens behind this mark, where it stands at the front; else all of them
unfoldable pub past_mark : Mark → List Lexeme → List Lexeme
past_mark mark [] = []
past_mark mark (sign found ∷ rest) = if mark_eq mark found then rest else sign found ∷ rest
past_mark mark (other ∷ rest) = other ∷ rest

-- a word, `=`
unfoldable pub is_assignment : List Lexeme → Bool
is_assignment [] = false
is_assignment (word key ∷ rest) = begins Equals rest
is_assignment (other ∷ rest) = false
