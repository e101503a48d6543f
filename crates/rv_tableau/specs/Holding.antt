-- When sets of parts hold on letters, and what pairs ask of the first letter and of the rest.
use Rattle.std.specs.Prelude.{ℕ, zero, suc, Bool, true, not, ◌&&◌, ◌||◌, List, length}
use Rattle.rv_model.specs.Numbers.{has_bit}
use Rattle.rv_model.specs.Meaning.{true_on}
use Rattle.rv_model.specs.Truth.{Weak}
use Rattle.rv_nnf.specs.Parts.{PartValue, Label, part_value_at, part_meaning}
use Rattle.rv_tableau.specs.declared.pairs.Pair.{Pair}

-- each member below n passes the test
abbrev pub all_below : ℕ → ℕ → (ℕ → Bool) → Bool
all_below zero set p = true
all_below (suc n) set p = all_below n set p && (not (has_bit set n) || p n)

-- the parts of the set hold weakly on the letters
abbrev pub set_holds : List PartValue → ℕ → List ℕ → Bool
set_holds ps set w = all_below (length ps) set (λ k. part_meaning ps k Weak w)

-- whether the part, where it is a label, is true on the letter
abbrev pub piece_true : ℕ → PartValue → Bool
piece_true x (Label f) = true_on x f
piece_true x p = true

-- the same of the part of a number
abbrev pub label_true : List PartValue → ℕ → ℕ → Bool
label_true ps x k = piece_true x (part_value_at ps k)

-- the pair's labels are true on the first letter, and its parts hold weakly on the rest
abbrev pub pair_holds : List PartValue → ℕ → List ℕ → Pair → Bool
pair_holds ps x t p = all_below (length ps) p.labels (label_true ps x) && set_holds ps p.next t
