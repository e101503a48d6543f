-- The branch number is the length of the cover.
use Rattle.std.proofs.Common.{◌≡◌, ℕ, zero, suc, ◌+◌, ◌*◌, ◌<◌, Bool, true, false, cond, List, [], ◌∷◌, map, length, refl, sym, ap, ◌∙◌, arith, length-append}
use mathlib.Core.Path.{ap₂}
use Rattle.std.proofs.lemmas.List.{length-map}
use Rattle.rv_model.specs.Ltl.{Ltl, True, False}
use Rattle.rv_model.specs.Numbers.{has_bit}
use Rattle.rv_tableau.specs.declared.pairs.Pair.{Pair}
use Rattle.rv_tableau.specs.Pairs.{join, unions, and_later}
use Rattle.rv_tableau.specs.Cover.{label_cover, piece_cover, part_cover, cover_below, cover_of}
use Rattle.rv_tableau.specs.Branches.{label_branches, piece_branches, part_branches, branches_below, branch_number}
use Rattle.rv_nnf.specs.Parts.{PartValue, Label, Next, And, Or, Until, Release, part_value_at, OperandsBelow}
use Rattle.rv_tableau.proofs.CoverSays.{cover_by}
use Rattle.rv_tableau.proofs.BranchCount.{branches_by}

-- of all unions
length-unions : (ps qs : List Pair) → length (unions ps qs) ≡ length ps * length qs
length-unions [] qs = omega arith
length-unions (p ∷ ps) qs = let a = length-append (map (join p) qs) (unions ps qs) in let m = length-map qs (join p) in let r = length-unions ps qs in omega (arith, a, m, r)

-- of a label
label_len : (k : ℕ) (f : Ltl) → length (label_cover k f) ≡ label_branches f
label_len k True = refl
label_len k False = refl
label_len k f = refl

-- of a part, from its operands
piece_len : (c : ℕ → List Pair) (b : ℕ → ℕ) (k : ℕ) (p : PartValue) → OperandsBelow k p → ((i : ℕ) → i < k → length (c i) ≡ b i) → length (piece_cover c k p) ≡ piece_branches b p
piece_len c b k (Label f) o h = label_len k f
piece_len c b k (Next i) o h = refl
piece_len c b k (And i j) o h = length-unions (c i) (c j) ∙ ap₂ (λ x y. x * y) (h i o.0) (h j o.1)
piece_len c b k (Or i j) o h = length-append (c i) (c j) ∙ ap₂ (λ x y. x + y) (h i o.0) (h j o.1)
piece_len c b k (Until i j) o h = length-append (c j) (and_later k (c i)) ∙ ap₂ (λ x y. x + y) (h j o.1) (length-map (c i) _ ∙ h i o.0)
piece_len c b k (Release i j) o h = length-append (unions (c i) (c j)) (and_later k (c j)) ∙ ap₂ (λ x y. x + y) (length-unions (c i) (c j) ∙ ap₂ (λ x y. x * y) (h i o.0) (h j o.1)) (length-map (c j) _ ∙ h j o.1)

module _ (ps : List PartValue) (below : (k : ℕ) → OperandsBelow k (part_value_at ps k)) where
  -- of the parts below a number
  len_below : (n k : ℕ) → k < n → length (part_cover ps k) ≡ part_branches ps k
  len_below zero k h = omega arith
  len_below (suc n) k h = ap length (cover_by ps below k) ∙ piece_len (part_cover ps) (part_branches ps) k (part_value_at ps k) (below k) (λ i s. len_below n i (omega arith)) ∙ sym (branches_by ps below k)

  -- of a set with one more part
  step_len : (n set : ℕ) → length (cover_below ps set n) ≡ branches_below ps set n → (b : Bool) → length (cond b (unions (cover_below ps set n) (part_cover ps n)) (cover_below ps set n)) ≡ cond b (branches_below ps set n * part_branches ps n) (branches_below ps set n)
  step_len n set h true = length-unions (cover_below ps set n) (part_cover ps n) ∙ ap₂ (λ x y. x * y) h (len_below (suc n) n (omega arith))
  step_len n set h false = h

  -- of the parts of a set below a number
  set_len : (n set : ℕ) → length (cover_below ps set n) ≡ branches_below ps set n
  set_len zero set = refl
  set_len (suc n) set = step_len n set (set_len n set) (has_bit set n)

-- of a set
pub cover_len : (ps : List PartValue) → ((k : ℕ) → OperandsBelow k (part_value_at ps k)) → (set : ℕ) → length (cover_of ps set) ≡ branch_number ps set
cover_len ps below set = set_len ps below (length ps) set

-- the same of a part
pub part_cover_len : (ps : List PartValue) → ((k : ℕ) → OperandsBelow k (part_value_at ps k)) → (k : ℕ) → length (part_cover ps k) ≡ part_branches ps k
part_cover_len ps below k = len_below ps below (suc k) k (omega arith)
