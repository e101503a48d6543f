-- The branch numbers that are kept, and the cover of a part from those of its operands.
use Rattle.std.specs.Prelude.{◌≡◌, ℕ, ◌<◌, ◌≤◌, min, List, [], ◌∷◌, ◌++◌, map, length, slice_index, slice_index_or, Option, Some, None, Vec}
use Rattle.std.specs.declared.alloc.Global.{Global}
use Rattle.rv_nnf.specs.Parts.{PartValue, Label, Next, And, Or, Until, Release}
use Rattle.rv_tableau.specs.declared.pairs.Pair.{Pair}
use Rattle.rv_tableau.specs.Pairs.{later_alone, unions, and_later}
use Rattle.rv_tableau.specs.Branches.{part_branches}
use Rattle.rv_tableau.specs.Cover.{label_cover, part_cover}

-- the branch number of each part, kept up to 4,097
pub record AreBranchNumbers (ps : List PartValue) (numbers : List ℕ) : Type 0 where
  pub count : length numbers ≡ length ps
  pub each : (k : ℕ) → k < length ps → slice_index numbers k ≡ min (part_branches ps k) 4097

-- the operands of a part that has two
abbrev pub operands_of : PartValue → Option (ℕ × ℕ)
operands_of (Label f) = None
operands_of (Next i) = None
operands_of (And i j) = Some (i, j)
operands_of (Or i j) = Some (i, j)
operands_of (Until i j) = Some (i, j)
operands_of (Release i j) = Some (i, j)

-- the cover of part k, where it has two operands, from theirs
abbrev pub cover_from : ℕ → PartValue → List Pair → List Pair → List Pair
cover_from k (Label f) left right = []
cover_from k (Next i) left right = []
cover_from k (And i j) left right = unions left right
cover_from k (Or i j) left right = left ++ right
cover_from k (Until i j) left right = right ++ and_later k left
cover_from k (Release i j) left right = unions left right ++ and_later k right

-- the cover of part k, where it has not
abbrev pub cover_alone : ℕ → PartValue → List Pair
cover_alone k (Label f) = label_cover k f
cover_alone k (Next i) = later_alone i ∷ []
cover_alone k (And i j) = []
cover_alone k (Or i j) = []
cover_alone k (Until i j) = []
cover_alone k (Release i j) = []

-- ---- covers that were made

-- the pairs of the cover at an index, and none past the end
abbrev pub pairs_at : List (Vec Pair Global) → ℕ → List Pair
pairs_at covers k = slice_index_or (map (λ v. v.items) covers) k []

-- the pairs are the cover of part k, unless its branch number is over `most`
abbrev pub IsCover : List PartValue → List ℕ → ℕ → ℕ → List Pair → Type 0
IsCover ps numbers most k pairs = slice_index numbers k ≤ most → pairs ≡ part_cover ps k

-- the covers are so of the first parts
abbrev pub AreCovers : List PartValue → List ℕ → ℕ → List (Vec Pair Global) → Type 0
AreCovers ps numbers most covers = (k : ℕ) → k < length covers → IsCover ps numbers most k (pairs_at covers k)
