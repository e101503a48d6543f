-- Where a branch number is 0 the cover is empty, whatever its other factors are.
use Rattle.std.proofs.Common.{◌≡◌, ℕ, ◌<◌, min, List, [], ◌∷◌, length, refl, ◌∙◌, arith}
use Rattle.std.specs.Prelude.{slice_index}
use Rattle.std.proofs.lemmas.List.{length-map}
use Rattle.rv_nnf.specs.Views.{part_value, part_values}
use Rattle.rv_nnf.specs.declared.parts.Part.{Part}
use Rattle.rv_tableau.specs.declared.pairs.Pair.{Pair}
use Rattle.rv_tableau.specs.Cover.{part_cover, cover_of}
use Rattle.rv_tableau.specs.Branches.{part_branches, branch_number}
use Rattle.rv_tableau.specs.inner.Covering.{AreBranchNumbers}
use Rattle.rv_tableau.proofs.PartAt.{AllBelow}
use Rattle.rv_tableau.proofs.CoverLen.{part_cover_len, cover_len}

-- a list of no length is empty
no_pairs : (xs : List Pair) → length xs ≡ 0 → xs ≡ []
no_pairs [] h = refl
no_pairs (x ∷ xs) h = absurd (omega arith)

-- a part without branches has the empty cover
pub empty_cover : (parts : List Part) (numbers : List ℕ) (k : ℕ) → AreBranchNumbers (part_values parts) numbers → AllBelow parts → k < length parts → slice_index numbers k ≡ 0 → part_cover (part_values parts) k ≡ []
empty_cover parts numbers k are b h z =
    no_pairs (part_cover (part_values parts) k)
    (part_cover_len (part_values parts) b k ∙ (let e = are.each k (let l = length-map parts part_value in omega arith) in let r : part_branches (part_values parts) k ≡ 0 = omega arith in r))

-- nor has a set
pub empty_set_cover : (parts : List Part) (set n : ℕ) → AllBelow parts → n ≡ min (branch_number (part_values parts) set) 4097 → n ≡ 0 → cover_of (part_values parts) set ≡ []
empty_set_cover parts set n b e z = no_pairs (cover_of (part_values parts) set) (cover_len (part_values parts) b set ∙ (let r : branch_number (part_values parts) set ≡ 0 = omega arith in r))
