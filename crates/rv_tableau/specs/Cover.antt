-- What must be true of the first letter, and of the rest, for a set of parts to hold weakly (Gerth, Peled, Vardi and Wolper, 1995).
use Rattle.std.specs.Prelude.{ℕ, zero, suc, cond, List, [], ◌∷◌, ◌++◌, length}
use Rattle.rv_model.specs.Ltl.{Ltl, True, False}
use Rattle.rv_model.specs.Numbers.{has_bit}
use Rattle.rv_nnf.specs.Parts.{PartValue, Label, Next, And, Or, Until, Release, by_number, part_value_at}
use Rattle.rv_tableau.specs.declared.pairs.Pair.{Pair}
use Rattle.rv_tableau.specs.Pairs.{empty_pair, label_alone, later_alone, unions, and_later}

-- the cover of a label: `true` asks nothing, and `false` has no pair
abbrev pub label_cover : ℕ → Ltl → List Pair
label_cover k True = empty_pair ∷ []
label_cover k False = []
label_cover k f = label_alone k ∷ []

-- the cover of part k, from those of its operands
abbrev pub piece_cover : (ℕ → List Pair) → ℕ → PartValue → List Pair
piece_cover c k (Label f) = label_cover k f
piece_cover c k (And i j) = unions (c i) (c j)
piece_cover c k (Or i j) = c i ++ c j
piece_cover c k (Next i) = later_alone i ∷ []
piece_cover c k (Until i j) = c j ++ and_later k (c i)
piece_cover c k (Release i j) = unions (c i) (c j) ++ and_later k (c j)

-- the cover of part k
unfoldable pub part_cover : List PartValue → ℕ → List Pair
part_cover ps k = by_number [] (λ c k. piece_cover c k (part_value_at ps k)) (suc k) k

-- all unions of one pair of each part of the set, for the parts below n
abbrev pub cover_below : List PartValue → ℕ → ℕ → List Pair
cover_below ps set zero = empty_pair ∷ []
cover_below ps set (suc n) = cond (has_bit set n) (unions (cover_below ps set n) (part_cover ps n)) (cover_below ps set n)

-- the cover of a set
abbrev pub cover_of : List PartValue → ℕ → List Pair
cover_of ps set = cover_below ps set (length ps)
