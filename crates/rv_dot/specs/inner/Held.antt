-- Names, tokens, attributes, facts, sayings and arcs, without where they lie in memory.
use Rattle.std.specs.Prelude.{ℕ, List, map}
use Rattle.std.specs.Borrow.{Bor}
use Rattle.std.specs.Option.{option_map}
use Rattle.rv_dot.specs.declared.token.DotToken.{DotToken}
use Rattle.rv_dot.specs.declared.token.DotToken.TheVariants.{Sign, Word, Text}
use Rattle.rv_dot.specs.declared.attribute.Attribute.{Attribute}
use Rattle.rv_dot.specs.declared.fact.Fact.{Fact}
use Rattle.rv_dot.specs.declared.fact.Fact.TheVariants as facts
use Rattle.rv_dot.specs.declared.saying.Saying.{Saying}
use Rattle.rv_dot.specs.declared.saying.Saying.TheVariants as sayings
use Rattle.rv_dot.specs.declared.gather.Arc.{Arc as HeldArc}
use Rattle.rv_dot.specs.Tokens.{Lexeme, sign, word, text}
use Rattle.rv_dot.specs.Lists.{Attribute as Setting}
use Rattle.rv_dot.specs.Names.{name_of}
use Rattle.rv_dot.specs.Statements.{Claim, declares, leads, value_held}
use Rattle.rv_dot.specs.Gathered.{Arc}

-- a name's bytes
abbrev pub bytes_of : Bor (List ℕ) → List ℕ
bytes_of name = name.now

-- what a token is
abbrev pub lexeme : DotToken → Lexeme
lexeme (Sign mark) = sign mark
lexeme (Word bytes) = word bytes.now
lexeme (Text bytes) = text bytes.now

-- what tokens are
abbrev pub lexemes : List DotToken → List Lexeme
lexemes tokens = map lexeme tokens

-- an attribute's key and value
abbrev pub setting : Attribute → Setting
setting a = record { key = a.key.now; value = lexeme a.value }

-- what a fact says
abbrev pub claim : Fact → Claim
claim (facts.Declares name shape) = declares (name_of (lexeme name)) (value_held (option_map lexeme shape))
claim (facts.Leads from to label) = leads (name_of (lexeme from)) (name_of (lexeme to)) (value_held (option_map lexeme label))

-- what facts say
abbrev pub claims : List Fact → List Claim
claims facts = map claim facts

-- what a saying says
abbrev pub claim_of : Saying → Claim
claim_of (sayings.Declares name shape) = declares name.items (option_map bytes_of shape)
claim_of (sayings.Leads from to label) = leads from.items to.items (option_map bytes_of label)

-- what sayings say
abbrev pub sayings_claims : List Saying → List Claim
sayings_claims sayings = map claim_of sayings

-- an arc by its names
abbrev pub arc : HeldArc → Arc
arc a = record { from = a.from.now; event = a.event.now; to = a.to.now }
