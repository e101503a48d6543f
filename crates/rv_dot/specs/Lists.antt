-- Words, values, names, and lists of them (this project's subset of DOT), read from tokens.
use Rattle.std.specs.Prelude.{ℕ, zero, suc, Bool, ◌||◌, codes, List, [], ◌∷◌, ◌++◌, length, Option, Some, None, if◌then◌else◌}
use Rattle.std.specs.Str.{bytes_eq}
use Rattle.std.specs.Option.{option_map, option_or}
use Rattle.rv_dot.specs.declared.token.Mark.{Mark}
use Rattle.rv_dot.specs.declared.token.Mark.TheVariants.{CloseBrace, CloseBracket, Equals, Semicolon, Comma}
use Rattle.rv_dot.specs.Tokens.{Lexeme, sign, word, text, ◌>>=◌}
use Rattle.rv_dot.specs.Marks.{begins, expects, past_mark}

-- the words that a name may not be
abbrev pub is_keyword : List ℕ → Bool
is_keyword w = bytes_eq w (codes "digraph") || bytes_eq w (codes "node") || bytes_eq w (codes "edge") || bytes_eq w (codes "graph") || bytes_eq w (codes "subgraph") || bytes_eq w (codes "strict")

-- a word at the front, and the tokens behind it
unfoldable pub front_word : List Lexeme → Option (List ℕ × List Lexeme)
front_word [] = None
front_word (word w ∷ rest) = Some (w, rest)
front_word (other ∷ rest) = None

-- a value at the front
unfoldable pub value_at : List Lexeme → Option (Lexeme × List Lexeme)
value_at [] = None
value_at (sign mark ∷ rest) = None
value_at (word w ∷ rest) = Some (word w, rest)
value_at (text t ∷ rest) = Some (text t, rest)

-- a name at the front: a string, or a word that is no keyword
unfoldable pub name_at : List Lexeme → Option (Lexeme × List Lexeme)
name_at [] = None
name_at (sign mark ∷ rest) = None
name_at (word w ∷ rest) = if is_keyword w then None else Some (word w, rest)
name_at (text t ∷ rest) = Some (text t, rest)

-- an attribute of a node or an edge
pub record Attribute : Type 0 where
  pub key : List ℕ
  pub value : Lexeme

-- the tokens behind at most one comma or semicolon
unfoldable pub separated : List Lexeme → List Lexeme
separated tokens = if begins Comma tokens then past_mark Comma tokens else past_mark Semicolon tokens

-- a word, `=`, a value
unfoldable pub attribute_at : List Lexeme → Option (Attribute × List Lexeme)
attribute_at tokens = do
  key ← front_word tokens
  behind ← expects Equals key.1
  value ← value_at behind
  Some (record { key = key.0; value = value.0 }, value.1)

-- items, each with what may stand behind it, up to and with the closing mark, in at most so many tokens
unfoldable pub items_within : {A : Type 0} → Mark → (List Lexeme → Option (List A × List Lexeme)) → (List Lexeme → List Lexeme) → ℕ → List Lexeme → Option (List A × List Lexeme)
items_within close item_at past zero tokens = None
items_within close item_at past (suc n) tokens =
    if begins close tokens then Some ([], past_mark close tokens)
    else (item_at tokens >>= (λ first. items_within close item_at past n (past first.1) >>= (λ others. Some (first.0 ++ others.0, others.1))))

-- the same, in as many tokens as there are
unfoldable pub items_at : {A : Type 0} → Mark → (List Lexeme → Option (List A × List Lexeme)) → (List Lexeme → List Lexeme) → List Lexeme → Option (List A × List Lexeme)
items_at close item_at past tokens = items_within close item_at past (length tokens) tokens

-- an item of one thing
abbrev pub one_item : {A : Type 0} → Option (A × List Lexeme) → Option (List A × List Lexeme)
one_item read = option_map (λ x. (x.0 ∷ [], x.1)) read

-- an attribute among others
abbrev pub attribute_item : List Lexeme → Option (List Attribute × List Lexeme)
attribute_item tokens = one_item (attribute_at tokens)

-- behind an opening bracket: attributes, each with at most one comma or semicolon, up to and with the closing one
abbrev pub attributes_at : List Lexeme → Option (List Attribute × List Lexeme)
attributes_at tokens = items_at CloseBracket attribute_item separated tokens

-- the value that counts for this key: the last one
unfoldable pub last_value : List ℕ → List Attribute → Option Lexeme
last_value key [] = None
last_value key (a ∷ as') = option_or (last_value key as') (if bytes_eq a.key key then Some a.value else None)

-- behind an opening bracket: the value that counts for the key
unfoldable pub bracket_at : List ℕ → List Lexeme → Option (Option Lexeme × List Lexeme)
bracket_at key tokens = do
  attributes ← attributes_at tokens
  Some (last_value key attributes.0, attributes.1)

-- a name among others
abbrev pub name_item : List Lexeme → Option (List Lexeme × List Lexeme)
name_item tokens = one_item (name_at tokens)

-- names, each with at most one semicolon, up to and with the closing brace
abbrev pub names_at : List Lexeme → Option (List Lexeme × List Lexeme)
names_at tokens = items_at CloseBrace name_item (past_mark Semicolon) tokens
