-- The token in front of a list.
use Rattle.std.specs.Prelude.{List, [], ◌∷◌, Option, Some, None}
use Rattle.rv_ltl.specs.declared.token.Token.{Token}

-- the token at the front
abbrev pub front : List Token → Option Token
front [] = None
front (mark ∷ rest) = Some mark
