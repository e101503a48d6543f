-- A file is a list of definitions.
use Rattle.std.specs.Prelude.{ℕ, zero, suc, ◌≤◌, List, [], ◌∷◌, ◌++◌, length, drop, Option, Some, None}
use Rattle.std.specs.List.{AllByRecursion}
use Rattle.rv_ltl.specs.declared.token.Token.{Token}
use Rattle.rv_ltl.specs.declared.token.Token.TheVariants as token
use Rattle.rv_ltl.specs.Grammar.{Expr, Whole, spell, Fits}
use Rattle.rv_ltl.specs.Parse.{term_at, expr_by, ◌>>=◌}

-- a name and its formula
pub record Def : Type 0 where
  pub name : ℕ
  pub body : Expr

-- the tokens of a file
abbrev pub spell_file : List Def → List Token
spell_file [] = []
spell_file (d ∷ ds) = token.Name d.name ∷ (token.Equals ∷ (spell d.body ++ spell_file ds))

-- each formula is an expression in which at most so many parentheses and unary operators are open, and there are at most so many definitions
abbrev pub IsFile : ℕ → ℕ → List Def → Type 0
IsFile depth n ds = (length ds ≤ n) × AllByRecursion (λ d. Fits depth Whole d.body) ds

-- the name of the definition in front
abbrev pub head_name : List Token → Option ℕ
head_name (token.Name x ∷ (token.Equals ∷ rest)) = Some x
head_name marks = None

-- the definitions that the tokens spell, at most so many
unfoldable pub defs_at : ℕ → ℕ → List Token → Option (List Def)
defs_at depth n [] = Some []
defs_at depth zero (mark ∷ rest) = None
defs_at depth (suc n) (mark ∷ rest) =
    head_name (mark ∷ rest) >>= λ x. expr_by (term_at depth) (drop 2 (mark ∷ rest)) >>= λ y. defs_at depth n y.1 >>= λ ds. Some (record { name = x; body = y.0 } ∷ ds)
