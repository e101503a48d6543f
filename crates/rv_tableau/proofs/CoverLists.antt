-- Covers that are made part by part, where none is over the branch number of the set.
use Rattle.std.proofs.Common.{◌≡◌, ◌≢◌, ℕ, zero, suc, ◌+◌, ◌*◌, ◌<◌, ◌≤◌, min, cond, Bool, true, false, List, length, ◌⊎◌, inl, inr, Option, Some, None, refl, sym, ap, ◌∙◌, subst, arith}
use Rattle.std.specs.Prelude.{slice_index}
use Rattle.rv_model.specs.Numbers.{has_bit}
use Rattle.rv_nnf.specs.Parts.{PartValue, Label, Next, And, Or, Until, Release, part_value_at, OperandsBelow}
use Rattle.rv_tableau.specs.Branches.{piece_branches, part_branches, branches_below, branch_number}
use Rattle.rv_tableau.specs.inner.Covering.{AreBranchNumbers, operands_of}
use Rattle.rv_tableau.proofs.BranchCount.{branches_by}

-- ---- a factor is no more than a product that is not 0

-- of the left one
left-least : (x y : ℕ) → x * y ≢ 0 → x ≤ x * y
left-least x zero some = absurd (some (omega arith))
left-least x (suc y) some = omega arith

-- of the right one
right-least : (x y : ℕ) → x * y ≢ 0 → y ≤ x * y
right-least zero y some = absurd (some (omega arith))
right-least (suc x) y some = omega arith

-- ---- operands

-- the two operands, and 0 twice where there are not two
abbrev both_of : Option (ℕ × ℕ) → ℕ × ℕ
both_of None = (0, 0)
both_of (Some both) = both

-- what holds of both operands, by their other names
both-least : (b : ℕ → ℕ) (l r i j whole : ℕ) → ◌≡◌ {A = Option (ℕ × ℕ)} (Some (l, r)) (Some (i, j)) → b l ≤ whole → b r ≤ whole → (b i ≤ whole) × (b j ≤ whole)
both-least b l r i j whole e left right =
    let same : l ≡ i = ap (λ (o : Option (ℕ × ℕ)). (both_of o).0) e in
    let other : r ≡ j = ap (λ (o : Option (ℕ × ℕ)). (both_of o).1) e in
    (subst (λ (n : ℕ). b n ≤ whole) same left, subst (λ (n : ℕ). b n ≤ whole) other right)

-- neither operand has more branches than the part, if it has some
piece-least : (b : ℕ → ℕ) (p : PartValue) (i j : ℕ) → operands_of p ≡ Some (i, j) → piece_branches b p ≢ 0 → (b i ≤ piece_branches b p) × (b j ≤ piece_branches b p)
piece-least b (Label f) i j e some = absurd (cc)
piece-least b (Next n) i j e some = absurd (cc)
piece-least b (And l r) i j e some = both-least b l r i j (b l * b r) e (left-least (b l) (b r) some) (right-least (b l) (b r) some)
piece-least b (Or l r) i j e some = both-least b l r i j (b l + b r) e (omega arith) (omega arith)
piece-least b (Until l r) i j e some = both-least b l r i j (b r + b l) e (omega arith) (omega arith)
piece-least b (Release l r) i j e some = both-least b l r i j (b l * b r + b r) e (by (b r) some) (omega arith)
  where
    by : (n : ℕ) → b l * n + n ≢ 0 → b l ≤ b l * n + n
    by zero s = absurd (s (omega arith))
    by (suc n) s = omega arith

module _ (ps : List PartValue) (numbers : List ℕ) (most : ℕ) (are : AreBranchNumbers ps numbers) where
  -- so the numbers that are kept of them are not over the limit either
  pub operands-narrow : ((k : ℕ) → OperandsBelow k (part_value_at ps k)) → (k i j : ℕ) → k < length ps → i < length ps → j < length ps → operands_of (part_value_at ps k) ≡ Some (i, j)
      → slice_index numbers k ≢ 0 → slice_index numbers k ≤ most → (slice_index numbers i ≤ most) × (slice_index numbers j ≤ most)
  operands-narrow below k i j low li lj e some narrow =
      let whole = are.each k low in
      let left = are.each i li in
      let right = are.each j lj in
      let by = branches_by ps below k in
      let least = piece-least (part_branches ps) (part_value_at ps k) i j e (λ none. some (omega arith)) in
      let a = least.0 in
      let b = least.1 in
      (omega arith, omega arith)

  -- ---- parts of a set

  -- a part of the set has no more branches than the set, if it has some
  part-least : (set k n : ℕ) → k < n → has_bit set k ≡ true → branches_below ps set n ≢ 0 → part_branches ps k ≤ branches_below ps set n
  part-least set k zero lt in' some = absurd (omega arith)
  part-least set k (suc n) lt in' some = by (last k n) (has_bit set n) refl some (λ low s. part-least set k n low in' s)
    where
      last : (a b : ℕ) → (a ≡ b) ⊎ (a ≢ b)
      last a b = grind arith

      by : (k ≡ n) ⊎ (k ≢ n) → (b : Bool) → has_bit set n ≡ b → cond b (branches_below ps set n * part_branches ps n) (branches_below ps set n) ≢ 0 → (k < n → branches_below ps set n ≢ 0 → part_branches ps k ≤ branches_below ps set n)
          → part_branches ps k ≤ cond b (branches_below ps set n * part_branches ps n) (branches_below ps set n)
      by (inl is) true e s rest = subst (λ (m : ℕ). part_branches ps m ≤ branches_below ps set n * part_branches ps n) (sym is) (right-least (branches_below ps set n) (part_branches ps n) s)
      by (inl is) false e s rest = absurd (let no : true ≡ false = sym in' ∙ (ap (has_bit set) is ∙ e) in cc)
      by (inr ne) true e s rest =
          let more = left-least (branches_below ps set n) (part_branches ps n) s in
          let less = rest (omega arith) (λ none. s (ap (λ (m : ℕ). m * part_branches ps n) none ∙ (omega arith))) in
          omega arith
      by (inr ne) false e s rest = rest (omega arith) s

  -- so its number is not over that of the set
  pub part-narrow : (set k : ℕ) → most ≡ min (branch_number ps set) 4097 → most ≢ 0 → k < length ps → has_bit set k ≡ true → slice_index numbers k ≤ most
  part-narrow set k is some low in' =
      let part = are.each k low in
      let least = part-least set k (length ps) low in' (λ none. some (omega arith)) in
      omega arith
