-- The grammar of a DOT text (this project's subset): a tree, its tokens, when it is well formed, and what it says.
use Rattle.std.specs.Prelude.{ℕ, ◌<◌, Bool, true, false, codes, List, [], ◌∷◌, ◌++◌, length, map, Option, Some, None, ◌≡◌}
use Rattle.std.specs.List.{flat_map, AllByRecursion}
use Rattle.rv_dot.specs.declared.token.Mark.TheVariants.{OpenBrace, CloseBrace, OpenBracket, CloseBracket, Equals, Semicolon, Comma, Arrow}
use Rattle.rv_dot.specs.Tokens.{Lexeme, sign, word, text}
use Rattle.rv_dot.specs.Lists.{Attribute, is_keyword, last_value}
use Rattle.rv_dot.specs.Statements.{Claim, declares, leads, value_held}
use Rattle.rv_dot.specs.Names.{name_of}

-- a semicolon, or none
abbrev pub semicolon : Bool → List Lexeme
semicolon true = sign Semicolon ∷ []
semicolon false = []

-- what may stand behind an attribute
pub data Separator : Type 0 where
  nothing : Separator
  comma : Separator
  semi : Separator

-- its tokens
abbrev pub separator : Separator → List Lexeme
separator nothing = []
separator comma = sign Comma ∷ []
separator semi = sign Semicolon ∷ []

-- attributes, each with what stands behind it
abbrev pub Bracket : Type 0
Bracket = List (Attribute × Separator)

-- a word, `=`, a value, and a separator
abbrev pub attribute : Attribute × Separator → List Lexeme
attribute a = word a.0.key ∷ sign Equals ∷ a.0.value ∷ separator a.1

-- what stands between the brackets
abbrev pub inside : Bracket → List Lexeme
inside b = flat_map attribute b

-- the tokens of attributes with their brackets
abbrev pub bracket : Bracket → List Lexeme
bracket b = sign OpenBracket ∷ inside b ++ sign CloseBracket ∷ []

-- attributes, or none
abbrev pub optional_bracket : Option Bracket → List Lexeme
optional_bracket None = []
optional_bracket (Some b) = bracket b

-- names, each with a semicolon or none behind it
abbrev pub Group : Type 0
Group = List (Lexeme × Bool)

-- a name and its semicolon
abbrev pub named : Lexeme × Bool → List Lexeme
named n = n.0 ∷ semicolon n.1

-- the names of a group and its closing brace
abbrev pub group : Group → List Lexeme
group g = flat_map named g ++ sign CloseBrace ∷ []

-- the five kinds of statements, without their semicolons
pub data Statement : Type 0 where
  assigns : List ℕ → Lexeme → Statement
  declaration : Bracket → Group → Statement
  rank : List ℕ → Lexeme → Bool → Group → Statement
  node : Lexeme → Option Bracket → Statement
  edge : Lexeme → Lexeme → Option Bracket → Statement

-- the tokens of a statement, without its semicolon
abbrev pub statement : Statement → List Lexeme
statement (assigns key value) = word key ∷ sign Equals ∷ value ∷ []
statement (declaration b g) = sign OpenBrace ∷ word (codes "node") ∷ bracket b ++ group g
statement (rank key value s g) = sign OpenBrace ∷ word key ∷ sign Equals ∷ value ∷ semicolon s ++ group g
statement (node name b) = name ∷ optional_bracket b
statement (edge from to b) = from ∷ sign Arrow ∷ to ∷ optional_bracket b

-- a statement and its semicolon
abbrev pub with_semicolon : Statement × Bool → List Lexeme
with_semicolon s = statement s.0 ++ semicolon s.1

-- a title, and statements, each with a semicolon or none behind it
pub record File : Type 0 where
  pub title : List ℕ
  pub statements : List (Statement × Bool)

-- the tokens of a whole file
abbrev pub file : File → List Lexeme
file f = word (codes "digraph") ∷ word f.title ∷ sign OpenBrace ∷ flat_map with_semicolon f.statements ++ sign CloseBrace ∷ []

-- a value is a word or a string
abbrev pub IsValue : Lexeme → Type 0
IsValue (sign mark) = ⊥
IsValue (word w) = Unit {0}
IsValue (text t) = Unit {0}

-- a name is a string, or a word that is no keyword
abbrev pub IsName : Lexeme → Type 0
IsName (sign mark) = ⊥
IsName (word w) = is_keyword w ≡ false
IsName (text t) = Unit {0}

-- each attribute has a value
abbrev pub IsBracket : Bracket → Type 0
IsBracket b = AllByRecursion (λ a. IsValue a.0.value) b

-- so it is with attributes that may be missing
abbrev pub IsOptionalBracket : Option Bracket → Type 0
IsOptionalBracket None = Unit {0}
IsOptionalBracket (Some b) = IsBracket b

-- each name of a group is a name
abbrev pub IsGroup : Group → Type 0
IsGroup g = AllByRecursion (λ n. IsName n.0) g

-- a statement is made of values and names, and a declaration has a name
abbrev pub IsStatement : Statement → Type 0
IsStatement (assigns key value) = IsValue value
IsStatement (declaration b g) = IsBracket b × IsGroup g × (0 < length g)
IsStatement (rank key value s g) = IsValue value × IsGroup g
IsStatement (node name b) = IsName name × IsOptionalBracket b
IsStatement (edge from to b) = IsName from × IsName to × IsOptionalBracket b

-- each statement of the file is one
abbrev pub IsFile : File → Type 0
IsFile f = AllByRecursion (λ s. IsStatement s.0) f.statements

-- the value that counts for a key in a bracket: the last one
abbrev pub value_in : List ℕ → Bracket → Option Lexeme
value_in key b = last_value key (map (λ a. a.0) b)

-- the value that counts, where attributes may be missing
abbrev pub value_in_optional : List ℕ → Option Bracket → Option Lexeme
value_in_optional key None = None
value_in_optional key (Some b) = value_in key b

-- what a statement says of the automaton
abbrev pub statement_claims : Statement → List Claim
statement_claims (assigns key value) = []
statement_claims (declaration b g) = map (λ n. declares (name_of n.0) (value_held (value_in (codes "shape") b))) g
statement_claims (rank key value s g) = []
statement_claims (node name b) = []
statement_claims (edge from to b) = leads (name_of from) (name_of to) (value_held (value_in_optional (codes "label") b)) ∷ []

-- what a file says: what its statements say, in order
abbrev pub file_says : File → List Claim
file_says f = flat_map (λ s. statement_claims s.0) f.statements
