-- Which names a name reaches.
use Rattle.std.specs.Prelude.{◌≡◌, ℕ, List, ◌⊎◌, Some, None}
use Rattle.rv_ltl.specs.Grammar.{Expr, Paren, One, Two}
use Rattle.rv_ltl.specs.File.{Def}
use Rattle.rv_ltl.specs.Replace.{body_of}

-- the name stands in the formula
abbrev pub Mentions : Expr → ℕ → Type 0
Mentions Expr.True x = ⊥
Mentions Expr.False x = ⊥
Mentions (Expr.Name y) x = y ≡ x
Mentions (Paren e) x = Mentions e x
Mentions (One op e) x = Mentions e x
Mentions (Two op a b) x = Mentions a x ⊎ Mentions b x

-- x is defined, and y stands in its formula
abbrev pub Uses : List Def → ℕ → ℕ → Type 0
Uses ds x y = (e : Expr) × (body_of ds x ≡ Some e) × Mentions e y

-- one step or more
pub data Leads (R : ℕ → ℕ → Type 0) : ℕ → ℕ → Type 0 where
  Step : {x y : ℕ} → R x y → Leads R x y
  Then : {x z y : ℕ} → R x z → Leads R z y → Leads R x y

-- a name reaches what stands in its formula, and what that reaches
abbrev pub NameReaches : List Def → ℕ → ℕ → Type 0
NameReaches ds = Leads (Uses ds)

-- a defined name reaches itself
abbrev pub IsCyclic : List Def → Type 0
IsCyclic ds = (x : ℕ) × NameReaches ds x x

-- an atom of a name: it is reached, and is not defined
abbrev pub IsAtom : List Def → ℕ → ℕ → Type 0
IsAtom ds root x = NameReaches ds root x × (body_of ds x ≡ None)
