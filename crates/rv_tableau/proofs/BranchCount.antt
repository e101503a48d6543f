-- Branch numbers that are kept up to a cap.
use Rattle.std.proofs.Common.{◌≡◌, ℕ, ◌+◌, ◌*◌, ◌<◌, ◌≤◌, min, cond, List, [], ◌∷◌, ◌++◌, length, get_or, ◌⊎◌, inl, inr, length-append, refl, sym, ap, ◌∙◌, subst, arith, add-one}
use mathlib.Core.Path.{ap₂}
use Rattle.std.specs.Prelude.{slice_index}
use Rattle.std.proofs.lemmas.List.{length-map}
use Rattle.std.proofs.Math.Seq.{get_or-append_seam}
use Rattle.std.proofs.lemmas.List.{get_or_append_left}
use Rattle.std.proofs.lemmas.Bool.{cases_lt}
use Rattle.rv_model.specs.Numbers.{has_bit}
use Rattle.rv_tableau.specs.inner.Covering.{AreBranchNumbers}
use Rattle.rv_tableau.specs.Branches.{piece_branches, part_branches, branches_below}
use Rattle.rv_nnf.specs.Parts.{PartValue, Label, Next, And, Or, Until, Release, part_value_at, OperandsBelow}
use Rattle.rv_nnf.proofs.ByNumber.{by_number_is}
use Rattle.rv_nnf.specs.Views.{part_value, part_values}
use Rattle.rv_nnf.specs.declared.parts.Part.{Part}
use Rattle.rv_tableau.proofs.Capped.{capped_sum, capped_product}
use Rattle.rv_tableau.proofs.PartAt.{AllBelow, part_value_is}

-- a branch number rests on the operands alone
same_branches : (f g : ℕ → ℕ) (k : ℕ) (p : PartValue) → OperandsBelow k p → ((i : ℕ) → i < k → f i ≡ g i) → piece_branches f p ≡ piece_branches g p
same_branches f g k (Label x) b h = refl
same_branches f g k (Next i) b h = refl
same_branches f g k (And i j) b h = ap₂ (λ x y. x * y) (h i b.0) (h j b.1)
same_branches f g k (Or i j) b h = ap₂ (λ x y. x + y) (h i b.0) (h j b.1)
same_branches f g k (Until i j) b h = ap₂ (λ x y. y + x) (h i b.0) (h j b.1)
same_branches f g k (Release i j) b h = ap₂ (λ x y. x * y + y) (h i b.0) (h j b.1)

-- the branch number of a part is what its operands make
pub branches_by : (ps : List PartValue) → ((k : ℕ) → OperandsBelow k (part_value_at ps k)) → (k : ℕ) → part_branches ps k ≡ piece_branches (part_branches ps) (part_value_at ps k)
unfolding part_branches
branches_by ps below k = by_number_is 0 (λ b k. piece_branches b (part_value_at ps k)) (λ f g k h. same_branches f g k (part_value_at ps k) (below k) h) k

-- a product and a sum, each kept up to the cap
two_caps : (x y z : ℕ) → min (min (min x 4097 * min y 4097) 4097 + min y 4097) 4097 ≡ min (x * y + y) 4097
two_caps x y z = ap (λ n. min (n + min y 4097) 4097) (capped_product x y) ∙ capped_sum (x * y) y

-- from operands that are kept up to the cap
pub capped_piece : (f g : ℕ → ℕ) (k : ℕ) (p : PartValue) → OperandsBelow k p → ((i : ℕ) → i < k → f i ≡ min (g i) 4097) → min (piece_branches f p) 4097 ≡ min (piece_branches g p) 4097
capped_piece f g k (Label x) b h = refl
capped_piece f g k (Next i) b h = refl
capped_piece f g k (And i j) b h = ap₂ (λ x y. min (x * y) 4097) (h i b.0) (h j b.1) ∙ capped_product (g i) (g j)
capped_piece f g k (Or i j) b h = ap₂ (λ x y. min (x + y) 4097) (h i b.0) (h j b.1) ∙ capped_sum (g i) (g j)
capped_piece f g k (Until i j) b h = ap₂ (λ x y. min (y + x) 4097) (h i b.0) (h j b.1) ∙ capped_sum (g j) (g i)
capped_piece f g k (Release i j) b h =
    ap₂ (λ x y. min (x * y + y) 4097) (h i b.0) (h j b.1)
    ∙ (let p = capped_product (g i) (g j) in let e : min (min (g i) 4097 * min (g j) 4097 + min (g j) 4097) 4097 ≡ min (min (min (g i) 4097 * min (g j) 4097) 4097 + min (g j) 4097) 4097 = omega arith in e)
    ∙ two_caps (g i) (g j) 0

-- what the code finds for a part
pub capped_part : (parts : List Part) (below : List ℕ) (k r : ℕ) (p : Part) → p ≡ get_or parts k p → k < length parts → AllBelow parts → length below ≡ k → ((i : ℕ) → i < length below → slice_index below i ≡ min (part_branches (part_values parts) i) 4097) → r ≡ min (piece_branches (slice_index below) (part_value p)) 4097 → r ≡ min (part_branches (part_values parts) k) 4097
capped_part parts below k r p e h b l f m =
    let at = part_value_is parts k p p e refl h in
    m ∙ capped_piece (slice_index below) (part_branches (part_values parts)) k (part_value p) (subst (OperandsBelow k) at (b k)) (λ i s. f i (omega arith))
    ∙ ap (λ q. min (piece_branches (part_branches (part_values parts)) q) 4097) (sym at) ∙ ap (λ n. min n 4097) (sym (branches_by (part_values parts) b k))

-- the number that is kept of a part
pub number_at : (parts : List Part) (numbers : List ℕ) (k : ℕ) → AreBranchNumbers (part_values parts) numbers → k < length parts → slice_index numbers k ≡ min (part_branches (part_values parts) k) 4097
number_at parts numbers k are h = are.each k (let l = length-map parts part_value in omega arith)

-- one more part of a set
pub branches_next : (ps : List PartValue) (set k : ℕ) → branches_below ps set (k + 1) ≡ cond (has_bit set k) (branches_below ps set k * part_branches ps k) (branches_below ps set k)
branches_next ps set k = ap (branches_below ps set) (add-one k)

-- the product with one more part
pub capped_next : (ps : List PartValue) (set k b r : ℕ) → b ≡ min (branches_below ps set k) 4097 → r ≡ min (part_branches ps k) 4097 → min (b * r) 4097 ≡ min (branches_below ps set k * part_branches ps k) 4097
capped_next ps set k b r e f = ap₂ (λ x y. min (x * y) 4097) e f ∙ capped_product (branches_below ps set k) (part_branches ps k)

-- one more number at the end of the list
pub push_each : (out news : List ℕ) (r k : ℕ) (f : ℕ → ℕ) → news ≡ out ++ r ∷ [] → length out ≡ k → ((i : ℕ) → i < length out → slice_index out i ≡ f i) → r ≡ f k → (length news ≡ k + 1) × ((i : ℕ) → i < length news → slice_index news i ≡ f i)
push_each out news r k f e l h m = (let s = ap length e in let t = length-append out (r ∷ []) in omega arith, λ i s. at i s (cases_lt i (length out)))
  where
    at : (i : ℕ) → i < length news → (i < length out) ⊎ (length out ≤ i) → slice_index news i ≡ f i
    at i s (inl t) = ap (λ xs. slice_index xs i) e ∙ get_or_append_left out (r ∷ []) 0 i t ∙ h i t
    at i s (inr t) =
        let j : i ≡ length out = (let a = ap length e in let b = length-append out (r ∷ []) in omega arith) in
        ap (λ xs. slice_index xs i) e ∙ ap (slice_index (out ++ r ∷ [])) j ∙ get_or-append_seam out r [] 0 ∙ m ∙ ap f (sym l ∙ sym j)
