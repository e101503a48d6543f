-- A defined name stands for its formula; what that weighs.
use Rattle.std.specs.Prelude.{ℕ, zero, suc, Bool, true, false, ◌+◌, ◌||◌, ◌&&◌, nat_eq, if◌then◌else◌, List, [], ◌∷◌, length, Option, Some, None}
use Rattle.rv_ltl.specs.Grammar.{Expr, Paren, One, Two}
use Rattle.rv_ltl.specs.Operators.{weight_two}
use Rattle.rv_ltl.specs.Parse.{◌>>=◌}
use Rattle.rv_ltl.specs.File.{Def}

-- a formula without its parentheses
abbrev pub plain : Expr → Expr
plain Expr.True = Expr.True
plain Expr.False = Expr.False
plain (Expr.Name x) = Expr.Name x
plain (Paren e) = plain e
plain (One op e) = One op (plain e)
plain (Two op a b) = Two op (plain a) (plain b)

-- the same of a definition
abbrev pub plain_def : Def → Def
plain_def d = record { name = d.name; body = plain d.body }

-- the formula of a defined name
abbrev pub body_of : List Def → ℕ → Option Expr
body_of [] x = None
body_of (d ∷ ds) x = if nat_eq d.name x then Some d.body else body_of ds x

-- nothing is there
abbrev pub is_none : {A : Type 0} → Option A → Bool
is_none None = true
is_none (Some x) = false

-- the formula with each name replaced; none where one of its names stands for nothing
abbrev pub replaced : (ℕ → Option Expr) → Expr → Option Expr
replaced value Expr.True = Some Expr.True
replaced value Expr.False = Some Expr.False
replaced value (Expr.Name x) = value x
replaced value (Paren e) = replaced value e
replaced value (One op e) = replaced value e >>= λ f. Some (One op f)
replaced value (Two op a b) = replaced value a >>= λ f. replaced value b >>= λ g. Some (Two op f g)

-- what a name stands for: itself, if it is not defined, and else its formula, with definitions in one another at most so deep
unfoldable pub value_of : List Def → ℕ → ℕ → Option Expr
value_of ds zero x = elim (body_of ds x) [ None ↦ Some (Expr.Name x) | Some e ↦ None ]
value_of ds (suc n) x = elim (body_of ds x) [ None ↦ Some (Expr.Name x) | Some e ↦ replaced (value_of ds n) e ]

-- no name is defined twice
abbrev pub once : List Def → Bool
once [] = true
once (d ∷ ds) = is_none (body_of ds d.name) && once ds

-- among these definitions one is deeper than all definitions in one another, so that a name reaches itself: the law `cycles`
abbrev pub any_endless : List Def → List Def → Bool
any_endless all [] = false
any_endless all (d ∷ ds) = is_none (value_of all (length all) d.name) || any_endless all ds

-- how many constants, atoms and operators a formula has, with `equivalent` as in the table of operators
abbrev pub weight_of : Expr → ℕ
weight_of Expr.True = 1
weight_of Expr.False = 1
weight_of (Expr.Name x) = 1
weight_of (Paren e) = weight_of e
weight_of (One op e) = 1 + weight_of e
weight_of (Two op a b) = weight_two op (weight_of a) (weight_of b)
