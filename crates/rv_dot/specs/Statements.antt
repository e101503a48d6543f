-- The statements of a DOT text (this project's subset), read from its tokens.
use Rattle.std.specs.Prelude.{ℕ, ◌&&◌, ◌==◌, codes, List, [], ◌∷◌, length, map, Option, Some, None, if◌then◌else◌}
use Rattle.std.specs.Str.{bytes_eq}
use Rattle.std.specs.Option.{option_map}
use Rattle.rv_dot.specs.declared.token.Mark.TheVariants.{OpenBrace, CloseBrace, OpenBracket, Equals, Semicolon, Arrow}
use Rattle.rv_dot.specs.Tokens.{Lexeme, ◌>>=◌}
use Rattle.rv_dot.specs.Lists.{front_word, value_at, name_at, attribute_at, items_at, bracket_at, names_at}
use Rattle.rv_dot.specs.Marks.{begins, expects, past_mark, is_assignment}
use Rattle.rv_dot.specs.Names.{content_of, name_of}

-- what a statement says of the automaton: a name with the shape of its declaration, or an edge with its label
pub data Claim : Type 0 where
  declares : List ℕ → Option (List ℕ) → Claim
  leads : List ℕ → List ℕ → Option (List ℕ) → Claim

-- what a value holds
abbrev pub value_held : Option Lexeme → Option (List ℕ)
value_held value = option_map content_of value

-- a bracket, where one stands
unfoldable pub optional_bracket_at : List ℕ → List Lexeme → Option (Option Lexeme × List Lexeme)
optional_bracket_at key tokens =
    if begins OpenBracket tokens then bracket_at key (past_mark OpenBracket tokens)
    else Some (None, tokens)

-- behind `{ node`: attributes, and one name or more
unfoldable pub declared_at : List Lexeme → Option (List Claim × List Lexeme)
declared_at tokens = do
  behind ← expects OpenBracket tokens
  shape ← bracket_at (codes "shape") behind
  names ← names_at shape.1
  if length names.0 == 0 then None else Some (map (λ name. declares (name_of name) (value_held shape.0)) names.0, names.1)

-- behind `{ word =`: a rank group, which says nothing
unfoldable pub ranked_at : List Lexeme → Option (List Claim × List Lexeme)
ranked_at tokens = do
  value ← value_at tokens
  names ← names_at (past_mark Semicolon value.1)
  Some ([], names.1)

-- behind `{`
unfoldable pub group_at : List Lexeme → Option (List Claim × List Lexeme)
group_at tokens = do
  head ← front_word tokens
  if begins Equals head.1 then ranked_at (past_mark Equals head.1)
      else (if bytes_eq head.0 (codes "node") then declared_at head.1 else None)

-- word = value, as an attribute, which says nothing
unfoldable pub assignment_at : List Lexeme → Option (List Claim × List Lexeme)
assignment_at tokens = do
  attribute ← attribute_at tokens
  Some ([], attribute.1)

-- behind `name ->`
unfoldable pub edge_at : Lexeme → List Lexeme → Option (List Claim × List Lexeme)
edge_at from tokens = do
  to ← name_at tokens
  label ← optional_bracket_at (codes "label") to.1
  Some (leads (name_of from) (name_of to.0) (value_held label.0) ∷ [], label.1)

-- a node, of which nothing is said, or an edge
unfoldable pub named_at : List Lexeme → Option (List Claim × List Lexeme)
named_at tokens = do
  from ← name_at tokens
  if begins Arrow from.1 then edge_at from.0 (past_mark Arrow from.1)
      else (optional_bracket_at [] from.1 >>= (λ ignored. Some ([], ignored.1)))

-- a statement, without its semicolon
unfoldable pub statement_at : List Lexeme → Option (List Claim × List Lexeme)
statement_at tokens =
    if begins OpenBrace tokens then group_at (past_mark OpenBrace tokens)
    else (if is_assignment tokens then assignment_at tokens else named_at tokens)

-- statements, each with at most one semicolon, up to and with the closing brace
abbrev pub statements_at : List Lexeme → Option (List Claim × List Lexeme)
statements_at tokens = items_at CloseBrace statement_at (past_mark Semicolon) tokens

-- what all the tokens say: `digraph`, a word, and statements between braces
unfoldable pub claims_of : List Lexeme → Option (List Claim)
claims_of tokens = do
  head ← front_word tokens
  title ← front_word head.1
  behind ← expects OpenBrace title.1
  said ← statements_at behind
  if bytes_eq head.0 (codes "digraph") && length said.1 == 0 then Some said.0 else None
