-- Pieces of a text as tokens.
use Rattle.std.specs.Prelude.{ℕ, List, [], ◌∷◌, Option, Some, None, if◌then◌else◌, codes}
use Rattle.std.specs.Str.{bytes_eq}
use Rattle.rv_ltl.specs.declared.token.Token.{Token}
use Rattle.rv_ltl.specs.declared.token.Token.TheVariants as token
use Rattle.rv_ltl.specs.declared.token.Unary.{Unary}
use Rattle.rv_ltl.specs.declared.token.Unary.TheVariants as unary
use Rattle.rv_ltl.specs.declared.token.Binary.{Binary}
use Rattle.rv_ltl.specs.declared.token.Binary.TheVariants as binary
use Rattle.rv_ltl.specs.Parse.{◌>>=◌}
use Rattle.rv_ltl.specs.Names.{place_in}

-- what the first row with this text names
abbrev pub named : {A : Type 0} → List (List ℕ × A) → List ℕ → Option A
named [] piece = None
named (row ∷ rows) piece = if bytes_eq piece row.0 then Some row.1 else named rows piece

-- the marks and the constants
abbrev pub plain_of : List ℕ → Option Token
plain_of = named ((codes "(", token.Open) ∷ (codes ")", token.Close) ∷ (codes "=", token.Equals) ∷ (codes "true", token.True) ∷ (codes "false", token.False) ∷ [])

-- the operators before their operand
abbrev pub unary_of : List ℕ → Option Unary
unary_of = named ((codes "always", unary.Always) ∷ (codes "eventually", unary.Eventually) ∷ (codes "next", unary.Next) ∷ (codes "not", unary.Not) ∷ [])

-- the operators between their operands
abbrev pub binary_of : List ℕ → Option Binary
binary_of =
    named
    ((codes "and", binary.And) ∷ (codes "or", binary.Or) ∷ (codes "until", binary.Until) ∷ (codes "release", binary.Release)
    ∷ (codes "weak_until", binary.WeakUntil) ∷ (codes "imply", binary.Imply) ∷ (codes "equivalent", binary.Equivalent) ∷ [])

-- a piece's token; a word that is neither a keyword nor a name has none
abbrev pub token_of : List (List ℕ) → List ℕ → Option Token
token_of names piece =
    elim (plain_of piece) [
      | Some mark ↦ Some mark
      | None ↦ elim (unary_of piece) [
        | Some op ↦ Some (token.Unary op)
        | None ↦ elim (binary_of piece) [ Some op ↦ Some (token.Binary op) | None ↦ place_in names piece >>= λ place. Some (token.Name place) ]
      ]
    ]

-- the tokens of the pieces, where each has one
abbrev pub tokens_of : List (List ℕ) → List (List ℕ) → Option (List Token)
tokens_of names [] = Some []
tokens_of names (piece ∷ pieces) = token_of names piece >>= λ mark. tokens_of names pieces >>= λ marks. Some (mark ∷ marks)
