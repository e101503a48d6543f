-- The grammar of a rule file: trees, with their parentheses, and how they are spelled.
use Rattle.std.specs.Prelude.{◌≡◌, ℕ, ◌<◌, ◌-◌, List, [], ◌∷◌, ◌++◌}
use Rattle.rv_ltl.specs.declared.token.Token.{Token}
use Rattle.rv_ltl.specs.declared.token.Token.TheVariants as token
use Rattle.rv_ltl.specs.declared.token.Unary.{Unary}
use Rattle.rv_ltl.specs.declared.token.Binary.{Binary}
use Rattle.rv_ltl.specs.declared.token.Binary.TheVariants.{And}
use Rattle.rv_ltl.specs.Operators.{joins}

-- an expression or a term
pub data Expr : Type 0 where
  True False : Expr
  Name : ℕ → Expr
  Paren : Expr → Expr
  One : Unary → Expr → Expr
  Two : Binary → Expr → Expr → Expr

-- the tokens of a tree
abbrev pub spell : Expr → List Token
spell Expr.True = token.True ∷ []
spell Expr.False = token.False ∷ []
spell (Expr.Name name) = token.Name name ∷ []
spell (Paren e) = token.Open ∷ (spell e ++ token.Close ∷ [])
spell (One op e) = token.Unary op ∷ spell e
spell (Two op a b) = spell a ++ (token.Binary op ∷ spell b)

-- what may stand at a place: an expression, or a chain in which the operator stands at most so often; a term is a chain of none
pub data Place : Type 0 where
  Whole : Place
  Chain : Binary → ℕ → Place

-- the tree may stand there, and at most so many parentheses and unary operators are open at one place in it
abbrev pub Fits : ℕ → Place → Expr → Type 0
Fits depth place Expr.True = Unit {0}
Fits depth place Expr.False = Unit {0}
Fits depth place (Expr.Name name) = Unit {0}
Fits depth place (Paren e) = (0 < depth) × Fits (depth - 1) Whole e
Fits depth place (One op e) = (0 < depth) × Fits (depth - 1) (Chain And 0) e
Fits depth Whole (Two op a b) = Fits depth (Chain op (joins op - 1)) a × Fits depth (Chain And 0) b
Fits depth (Chain other n) (Two op a b) = (op ≡ other) × (0 < n) × Fits depth (Chain other (n - 1)) a × Fits depth (Chain And 0) b
