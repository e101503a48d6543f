-- One more part of a set.
use Rattle.std.proofs.Common.{◌≡◌, ℕ, ◌+◌, cond, List, ap, add-one}
use Rattle.rv_model.specs.Numbers.{has_bit}
use Rattle.rv_tableau.specs.Pairs.{unions}
use Rattle.rv_tableau.specs.Cover.{part_cover, cover_below}
use Rattle.rv_nnf.specs.Parts.{PartValue}

-- the cover of a set with one more part
pub cover_next : (ps : List PartValue) (set k : ℕ) → cover_below ps set (k + 1) ≡ cond (has_bit set k) (unions (cover_below ps set k) (part_cover ps k)) (cover_below ps set k)
cover_next ps set k = ap (cover_below ps set) (add-one k)
