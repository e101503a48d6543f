-- Branch numbers: how many pairs a cover has, repeats counted.
use Rattle.std.specs.Prelude.{ℕ, zero, suc, ◌+◌, ◌*◌, cond, List, length}
use Rattle.rv_model.specs.Ltl.{Ltl, False}
use Rattle.rv_model.specs.Numbers.{has_bit}
use Rattle.rv_nnf.specs.Parts.{PartValue, Label, Next, And, Or, Until, Release, by_number, part_value_at}

-- of a label
abbrev pub label_branches : Ltl → ℕ
label_branches False = 0
label_branches f = 1

-- of a part, from those of its operands
abbrev pub piece_branches : (ℕ → ℕ) → PartValue → ℕ
piece_branches b (Label f) = label_branches f
piece_branches b (Next i) = 1
piece_branches b (And i j) = b i * b j
piece_branches b (Or i j) = b i + b j
piece_branches b (Until i j) = b j + b i
piece_branches b (Release i j) = b i * b j + b j

-- of part k
unfoldable pub part_branches : List PartValue → ℕ → ℕ
part_branches ps k = by_number 0 (λ b k. piece_branches b (part_value_at ps k)) (suc k) k

-- the product over the parts of the set below n
abbrev pub branches_below : List PartValue → ℕ → ℕ → ℕ
branches_below ps set zero = 1
branches_below ps set (suc n) = cond (has_bit set n) (branches_below ps set n * part_branches ps n) (branches_below ps set n)

-- of a set
abbrev pub branch_number : List PartValue → ℕ → ℕ
branch_number ps set = branches_below ps set (length ps)
