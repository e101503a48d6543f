-- The atoms of the flagged definitions, and the formula that is built from code.
use Rattle.std.specs.Prelude.{◌≡◌, ℕ, zero, suc, ◌≤◌, ◌<◌, Bool, true, false, if◌then◌else◌, List, [], ◌∷◌, length, map, Option, Some, None, Vec, nat_eq, nat_lt}
use Rattle.std.specs.declared.alloc.Global.{Global}
use Rattle.rv_model.specs.Ltl.{Ltl}
use Rattle.rv_model.specs.Formulas.{RuleValue}
use Rattle.rv_ltl.specs.declared.token.CodeStep.{CodeStep}
use Rattle.rv_ltl.specs.declared.token.CodeStep.TheVariants as steps
use Rattle.rv_ltl.specs.File.{Def}
use Rattle.rv_ltl.specs.Replace.{is_none}
use Rattle.rv_ltl.specs.Atoms.{inserted, name_at, names_into, place_of, one_of, two_of}
use Rattle.rv_ltl.specs.inner.Machine.{Values, value}
use Rattle.rv_ltl.specs.inner.Weights.{index_of, def_at}
use Rattle.rv_ltl.specs.inner.Reached.{flag_at, AreReachFlags}

-- how many numbers in front are below another
abbrev pub count_below : ℕ → List ℕ → ℕ
count_below x [] = 0
count_below x (y ∷ ys) = if nat_lt y x then suc (count_below x ys) else 0

-- the number stands in the ascending list
abbrev pub stands : ℕ → List ℕ → Bool
stands x [] = false
stands x (y ∷ ys) = if nat_lt y x then stands x ys else nat_eq y x

-- the name is not defined
abbrev pub is_free : List Def → ℕ → Bool
is_free ds x = is_none (index_of ds x)

-- one step's name, if it passes the test, with others
abbrev pub step_into : (ℕ → Bool) → CodeStep → List ℕ → List ℕ
step_into test steps.True xs = xs
step_into test steps.False xs = xs
step_into test (steps.Name x) xs = if test x then inserted x xs else xs
step_into test (steps.Unary op) xs = xs
step_into test (steps.Binary op) xs = xs

-- the names of a code that pass the test, with others
abbrev pub code_into : (ℕ → Bool) → List CodeStep → List ℕ → List ℕ
code_into test [] xs = xs
code_into test (step ∷ code) xs = code_into test code (step_into test step xs)

-- the names of one definition that pass the test, where it is flagged, with others
abbrev pub def_into : (ℕ → Bool) → List Def → List Bool → ℕ → List ℕ → List ℕ
def_into test ds fs i xs = if flag_at fs i then names_into test (def_at ds i).body xs else xs

-- the same of the first n definitions
abbrev pub atoms_from : (ℕ → Bool) → List Def → List Bool → ℕ → List ℕ
atoms_from test ds fs zero = []
atoms_from test ds fs (suc n) = def_into test ds fs n (atoms_from test ds fs n)

-- the list became the wanted one, or that has more than 32
abbrev pub Puts : List ℕ → List ℕ → Bool → Type 0
Puts wanted new true = (new ≡ wanted) × (length wanted ≤ 32)
Puts wanted new false = 32 < length wanted

-- the wanted list was made, or it has more than 32
abbrev pub Collects : List ℕ → Option (Vec ℕ Global) → Type 0
Collects wanted (Some v) = (v.items ≡ wanted) × (length wanted ≤ 32)
Collects wanted None = 32 < length wanted

-- the names that the first n definitions leave undefined, of those that the definition at the root reaches
abbrev pub CollectsReached : List Def → List (Vec Bool Global) → ℕ → ℕ → Option (Vec ℕ Global) → Type 0
CollectsReached ds rows root n atoms = (fs : List Bool) × AreReachFlags rows root fs × Collects (atoms_from (is_free ds) ds fs n) atoms

-- formulas of the rule as values
abbrev pub ltls : (ℕ → Ltl) → Values Ltl
ltls names = record { constant = λ b. elim b [ true ↦ Ltl.True | false ↦ Ltl.False ]; name = names; one = one_of; two = two_of }

-- the formula that a name stands for, with definitions in one another at most so deep
unfoldable pub built : List Def → List ℕ → ℕ → ℕ → Ltl
built ds atoms zero x = elim (index_of ds x) [ None ↦ Ltl.Atom (place_of atoms x) | Some i ↦ Ltl.True ]
built ds atoms (suc n) x = elim (index_of ds x) [ None ↦ Ltl.Atom (place_of atoms x) | Some i ↦ value (ltls (built ds atoms n)) (def_at ds i).body ]

-- the rule of these atoms, with the formula that the root stands for
abbrev pub rule_over : List (List ℕ) → List Def → ℕ → List ℕ → RuleValue
rule_over names ds root atoms = record { atoms = map (name_at names) atoms; formula = built ds atoms (length ds) root }
