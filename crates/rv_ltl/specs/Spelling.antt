-- How a rule file is spelled: its tokens by words and marks, and these by bytes.
use Rattle.std.specs.Prelude.{◌≡◌, ℕ, false, List, [], ◌∷◌, Option, Some, slice_get, codes}
use Rattle.rv_ltl.specs.declared.token.Token.{Token}
use Rattle.rv_ltl.specs.declared.token.Token.TheVariants as token
use Rattle.rv_ltl.specs.declared.token.Unary.{Unary}
use Rattle.rv_ltl.specs.declared.token.Unary.TheVariants as unary
use Rattle.rv_ltl.specs.declared.token.Binary.{Binary}
use Rattle.rv_ltl.specs.declared.token.Binary.TheVariants as binary
use Rattle.rv_ltl.specs.Cuts.{Part, SplitsInto, pieces_in}
use Rattle.rv_ltl.specs.File.{Def, IsFile, spell_file}
use Rattle.rv_ltl.specs.Names.{names_of}
use Rattle.rv_ltl.specs.Parse.{◌>>=◌}
use Rattle.rv_ltl.specs.Pieces.{pieces_of}
use Rattle.rv_ltl.specs.RuleFile.{definitions_of}

-- how an operator before its operand is written
abbrev pub unary_word : Unary → List ℕ
unary_word unary.Always = codes "always"
unary_word unary.Eventually = codes "eventually"
unary_word unary.Next = codes "next"
unary_word unary.Not = codes "not"

-- how an operator between its operands is written
abbrev pub binary_word : Binary → List ℕ
binary_word binary.And = codes "and"
binary_word binary.Or = codes "or"
binary_word binary.Until = codes "until"
binary_word binary.Release = codes "release"
binary_word binary.WeakUntil = codes "weak_until"
binary_word binary.Imply = codes "imply"
binary_word binary.Equivalent = codes "equivalent"

-- the piece is how the token is written; a name is the one at its place among the names
abbrev pub IsSpelled : List (List ℕ) → Token → List ℕ → Type 0
IsSpelled names token.Open piece = piece ≡ codes "("
IsSpelled names token.Close piece = piece ≡ codes ")"
IsSpelled names token.Equals piece = piece ≡ codes "="
IsSpelled names token.True piece = piece ≡ codes "true"
IsSpelled names token.False piece = piece ≡ codes "false"
IsSpelled names (token.Name place) piece = slice_get names place ≡ Some piece
IsSpelled names (token.Unary op) piece = piece ≡ unary_word op
IsSpelled names (token.Binary op) piece = piece ≡ binary_word op

-- each piece is how the token at its place is written
abbrev pub AreSpelled : List (List ℕ) → List Token → List (List ℕ) → Type 0
AreSpelled names [] [] = Unit {0}
AreSpelled names [] (piece ∷ pieces) = ⊥
AreSpelled names (mark ∷ marks) [] = ⊥
AreSpelled names (mark ∷ marks) (piece ∷ pieces) = IsSpelled names mark piece × AreSpelled names marks pieces

-- the bytes are a text of these definitions: of parts whose words and marks are how their tokens are written
abbrev pub IsTextOf : List ℕ → List Def → Type 0
IsTextOf bytes ds = IsFile 256 256 ds × ((parts : List Part) × SplitsInto bytes parts × AreSpelled (names_of (pieces_in parts)) (spell_file ds) (pieces_in parts))

-- the definitions that the bytes spell, without parentheses, where they spell any
abbrev pub spelled_by : List ℕ → Option (List Def)
spelled_by bytes = pieces_of false bytes >>= definitions_of
