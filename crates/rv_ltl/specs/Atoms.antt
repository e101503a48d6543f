-- The names that stand in a formula, ascending, and the formula with each name as its place among them.
use Rattle.std.specs.Prelude.{◌≡◌, ◌≤◌, ℕ, suc, ◌⊎◌, Bool, nat_eq, nat_lt, if◌then◌else◌, List, [], ◌∷◌, slice_index_or}
use Rattle.rv_model.specs.Ltl.{Ltl}
use Rattle.rv_ltl.specs.declared.token.Unary.{Unary}
use Rattle.rv_ltl.specs.declared.token.Unary.TheVariants as unary
use Rattle.rv_ltl.specs.declared.token.Binary.{Binary}
use Rattle.rv_ltl.specs.declared.token.Binary.TheVariants as binary
use Rattle.rv_ltl.specs.Grammar.{Expr, Paren, One, Two}

-- the number stands in the list
abbrev pub Has : List ℕ → ℕ → Type 0
Has [] x = ⊥
Has (y ∷ ys) x = (y ≡ x) ⊎ Has ys x

-- each number is larger than the one before, and the first is at least low
abbrev pub Rises : ℕ → List ℕ → Type 0
Rises low [] = Unit {0}
Rises low (x ∷ xs) = (low ≤ x) × Rises (suc x) xs

-- the numbers with one more at its place, each once
abbrev pub inserted : ℕ → List ℕ → List ℕ
inserted x [] = x ∷ []
inserted x (y ∷ ys) = if nat_lt y x then y ∷ inserted x ys else if nat_eq y x then y ∷ ys else x ∷ (y ∷ ys)

-- the names of a formula that pass the test, with others
abbrev pub names_into : (ℕ → Bool) → Expr → List ℕ → List ℕ
names_into test Expr.True xs = xs
names_into test Expr.False xs = xs
names_into test (Expr.Name x) xs = if test x then inserted x xs else xs
names_into test (Paren e) xs = names_into test e xs
names_into test (One op e) xs = names_into test e xs
names_into test (Two op a b) xs = names_into test b (names_into test a xs)

-- a name's place among the atoms
abbrev pub place_of : List ℕ → ℕ → ℕ
place_of [] x = 0
place_of (y ∷ ys) x = if nat_eq y x then 0 else suc (place_of ys x)

-- the formula of an operator and its operand
abbrev pub one_of : Unary → Ltl → Ltl
one_of unary.Always f = Ltl.Always f
one_of unary.Eventually f = Ltl.Eventually f
one_of unary.Next f = Ltl.Next f
one_of unary.Not f = Ltl.Not f

-- the formula of an operator and its operands
abbrev pub two_of : Binary → Ltl → Ltl → Ltl
two_of binary.And f g = Ltl.And f g
two_of binary.Or f g = Ltl.Or f g
two_of binary.Until f g = Ltl.Until f g
two_of binary.Release f g = Ltl.Release f g
two_of binary.WeakUntil f g = Ltl.WeakUntil f g
two_of binary.Imply f g = Ltl.Imply f g
two_of binary.Equivalent f g = Ltl.Equivalent f g

-- the formula with each name as its place among the atoms
abbrev pub formula_over : List ℕ → Expr → Ltl
formula_over atoms Expr.True = Ltl.True
formula_over atoms Expr.False = Ltl.False
formula_over atoms (Expr.Name x) = Ltl.Atom (place_of atoms x)
formula_over atoms (Paren e) = formula_over atoms e
formula_over atoms (One op e) = one_of op (formula_over atoms e)
formula_over atoms (Two op a b) = two_of op (formula_over atoms a) (formula_over atoms b)

-- the name of a number
abbrev pub name_at : List (List ℕ) → ℕ → List ℕ
name_at names x = slice_index_or names x []
