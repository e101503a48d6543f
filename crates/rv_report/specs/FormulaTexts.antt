-- The printed table of a formula (this project's choice: docs/FORMATS.md). Row 0 is where runs begin, and node k is row k.
use Rattle.std.specs.Prelude.{ℕ, Bool, true, false, zero, suc, ◌-◌, ◌<◌, List, [], ◌∷◌, ◌++◌, length, flat_map, slice_index_or, if◌then◌else◌, codes, decimal}
use Rattle.rv_model.specs.Ltl.{Ltl, True, False, Atom, Not, Next, Always, Eventually, And, Or, Imply, Equivalent, Until, Release, WeakUntil}
use Rattle.rv_model.specs.Numbers.{list_of, has_bit}
use Rattle.rv_model.specs.Reports.{line_end}
use Rattle.rv_model.specs.Table.{Table}
use Rattle.rv_table.specs.Rows.{HasNode, row_count, node_in}

-- ---- formulas

-- it is a constant or a name
abbrev pub is_single : Ltl → Bool
is_single True = true
is_single False = true
is_single (Atom a) = true
is_single _ = false

-- a parenthesis beside an operand, where it is no constant or name
abbrev pub parenthesis : List ℕ → Ltl → List ℕ
parenthesis mark f = if is_single f then [] else mark

-- the operator of a formula
abbrev pub operator_text : Ltl → List ℕ
operator_text True = []
operator_text False = []
operator_text (Atom a) = []
operator_text (Not f) = codes "not "
operator_text (Next f) = codes "next "
operator_text (Always f) = codes "always "
operator_text (Eventually f) = codes "eventually "
operator_text (And f g) = codes " and "
operator_text (Or f g) = codes " or "
operator_text (Imply f g) = codes " imply "
operator_text (Equivalent f g) = codes " equivalent "
operator_text (Until f g) = codes " until "
operator_text (Release f g) = codes " release "
operator_text (WeakUntil f g) = codes " weak_until "

-- an operand with its text, in parentheses unless it is a constant or a name
abbrev pub operand_text : Ltl → List ℕ → List ℕ
operand_text f text = parenthesis (codes "(") f ++ text ++ parenthesis (codes ")") f

-- an operator before its operand
abbrev pub unary_text : List ℕ → Ltl → List ℕ → List ℕ
unary_text operator f text = operator ++ operand_text f text

-- an operator between its operands
abbrev pub binary_text : List ℕ → Ltl → List ℕ → Ltl → List ℕ → List ℕ
binary_text operator f left g right = operand_text f left ++ operator ++ operand_text g right

-- the text of a formula, by the names of its atoms
abbrev pub formula_text : List (List ℕ) → Ltl → List ℕ
formula_text atoms True = codes "true"
formula_text atoms False = codes "false"
formula_text atoms (Atom a) = slice_index_or atoms a []
formula_text atoms (Not f) = unary_text (operator_text (Not f)) f (formula_text atoms f)
formula_text atoms (Next f) = unary_text (operator_text (Next f)) f (formula_text atoms f)
formula_text atoms (Always f) = unary_text (operator_text (Always f)) f (formula_text atoms f)
formula_text atoms (Eventually f) = unary_text (operator_text (Eventually f)) f (formula_text atoms f)
formula_text atoms (And f g) = binary_text (operator_text (And f g)) f (formula_text atoms f) g (formula_text atoms g)
formula_text atoms (Or f g) = binary_text (operator_text (Or f g)) f (formula_text atoms f) g (formula_text atoms g)
formula_text atoms (Imply f g) = binary_text (operator_text (Imply f g)) f (formula_text atoms f) g (formula_text atoms g)
formula_text atoms (Equivalent f g) = binary_text (operator_text (Equivalent f g)) f (formula_text atoms f) g (formula_text atoms g)
formula_text atoms (Until f g) = binary_text (operator_text (Until f g)) f (formula_text atoms f) g (formula_text atoms g)
formula_text atoms (Release f g) = binary_text (operator_text (Release f g)) f (formula_text atoms f) g (formula_text atoms g)
formula_text atoms (WeakUntil f g) = binary_text (operator_text (WeakUntil f g)) f (formula_text atoms f) g (formula_text atoms g)

-- ---- rows

-- a label behind another one
abbrev pub further_text : List (List ℕ) → Ltl → List ℕ
further_text atoms f = codes "; " ++ formula_text atoms f

-- labels in order
abbrev pub labels_text : List (List ℕ) → List Ltl → List ℕ
labels_text atoms [] = []
labels_text atoms (f ∷ labels) = formula_text atoms f ++ flat_map (further_text atoms) labels

-- a row, where it is in the set
abbrev pub member_text : ℕ → ℕ → List ℕ
member_text set row = if has_bit set row then codes " " ++ decimal row else []

-- the rows of a set, ascending
abbrev pub rows_text : ℕ → List ℕ
rows_text set = flat_map (member_text set) (list_of (λ row. row) 32)

-- the labels of a row; row 0 has none, and no place for them
abbrev pub row_labels : List (List ℕ) → ℕ → List Ltl → List ℕ
row_labels atoms zero labels = []
row_labels atoms (suc row) labels = codes "[" ++ labels_text atoms labels ++ codes "] "

-- the line of a row
abbrev pub formula_row_text : List (List ℕ) → Table → ℕ → List ℕ
formula_row_text atoms t row = decimal row ++ codes " " ++ row_labels atoms row (node_in t row).labels ++ codes "->" ++ rows_text (node_in t row).next ++ line_end

-- how many nodes and atoms there are
abbrev pub sizes_text : ℕ → ℕ → List ℕ
sizes_text nodes atoms = codes "nodes " ++ decimal nodes ++ codes ", atoms " ++ decimal atoms ++ line_end

-- the table of a formula: row 0, and then the nodes in order
abbrev pub nodes_text : List (List ℕ) → Table → List ℕ
nodes_text atoms t = sizes_text (row_count t - 1) (length atoms) ++ flat_map (formula_row_text atoms t) (list_of (λ row. row) (row_count t))

-- it is a formula's
abbrev pub IsFormulaTable : Table → Type 0
IsFormulaTable t = (row : ℕ) → row < row_count t → HasNode t row
