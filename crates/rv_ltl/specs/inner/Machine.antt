-- What operators make of values, and how a stack of values runs postfix code.
use Rattle.std.specs.Prelude.{◌≡◌, ℕ, Bool, true, false, List, [], ◌∷◌, map}
use Rattle.std.specs.List.{AllByRecursion}
use Rattle.rv_ltl.specs.declared.token.Unary.{Unary}
use Rattle.rv_ltl.specs.declared.token.Binary.{Binary}
use Rattle.rv_ltl.specs.declared.token.CodeStep.{CodeStep}
use Rattle.rv_ltl.specs.declared.token.CodeStep.TheVariants as steps
use Rattle.rv_ltl.specs.declared.definitions.Definition.{Definition}
use Rattle.rv_ltl.specs.Grammar.{Expr, Paren, One, Two}
use Rattle.rv_ltl.specs.File.{Def}
use Rattle.rv_ltl.specs.inner.Postfix.{code}

-- a value for each constant and name, and what the operators make of values
pub record Values (A : Type 0) : Type 0 where
  pub constant : Bool → A
  pub name : ℕ → A
  pub one : Unary → A → A
  pub two : Binary → A → A → A

-- the value of a formula
abbrev pub value : {A : Type 0} → Values A → Expr → A
value v Expr.True = v.constant true
value v Expr.False = v.constant false
value v (Expr.Name x) = v.name x
value v (Paren e) = value v e
value v (One op e) = v.one op (value v e)
value v (Two op a b) = v.two op (value v a) (value v b)

-- the last value is replaced
abbrev pub one_step : {A : Type 0} → (A → A) → List A → List A
one_step f [] = []
one_step f (x ∷ stack) = f x ∷ stack

-- the last two values are replaced by one
abbrev pub two_step : {A : Type 0} → (A → A → A) → List A → List A
two_step f [] = []
two_step f (y ∷ []) = []
two_step f (y ∷ (x ∷ stack)) = f x y ∷ stack

-- one step of the code, over a stack with the last value in front
abbrev pub stepped : {A : Type 0} → Values A → CodeStep → List A → List A
stepped v steps.True stack = v.constant true ∷ stack
stepped v steps.False stack = v.constant false ∷ stack
stepped v (steps.Name x) stack = v.name x ∷ stack
stepped v (steps.Unary op) stack = one_step (v.one op) stack
stepped v (steps.Binary op) stack = two_step (v.two op) stack

-- all steps in turn
abbrev pub run : {A : Type 0} → Values A → List CodeStep → List A → List A
run v [] stack = stack
run v (step ∷ code) stack = run v code (stepped v step stack)

-- the last value
abbrev pub last_or : {A : Type 0} → A → List A → A
last_or default [] = default
last_or default (x ∷ stack) = x

-- the value that the code computes
abbrev pub computed : {A : Type 0} → Values A → List CodeStep → A
computed v code = last_or (v.constant true) (run v code [])

-- formulas as values
abbrev pub formulas : Values Expr
formulas = record { constant = λ b. elim b [ true ↦ Expr.True | false ↦ Expr.False ]; name = λ x. Expr.Name x; one = λ op e. One op e; two = λ op a b. Two op a b }

-- the definition that the program's one has the code of
abbrev pub def : Definition → Def
def d = record { name = d.name; body = computed formulas d.code.items }

-- the same of each definition
abbrev pub defs : List Definition → List Def
defs = map def

-- each code is that of a formula
abbrev pub AllCoded : List Definition → Type 0
AllCoded = AllByRecursion (λ d. code (computed formulas d.code.items) ≡ d.code.items)
