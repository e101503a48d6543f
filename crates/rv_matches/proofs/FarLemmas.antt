-- Edits and the difference of lengths; distances that are the same, or both too far.
use Rattle.std.proofs.Common.{◌≡◌, ◌≢◌, ℕ, zero, suc, ◌+◌, ◌<◌, ◌≤◌, inl, inr, cond, List, [], ◌∷◌, length, min, sym, ap, ◌∙◌, arith}
use Rattle.std.proofs.lemmas.Bool.{cases_eq, ne_eqb}
use Rattle.std.proofs.lemmas.Int.{clamps}
use Rattle.std.specs.Prelude.{nat_eq}
use Rattle.strsim.specs.Edits.{cost_at, next_row, rows}
use Rattle.rv_matches.specs.Nearest.{distance, edits, own_name}
use Rattle.rv_matches.specs.inner.NamesNear.{IsAsNear, near_at}
use Rattle.rv_matches.specs.Words.{Counted}

-- ---- edits

-- no cell of a row lies nearer than its two places
row_far : (c before : ℕ → ℕ) (n k : ℕ) → ((j : ℕ) → (n ≤ before j + j) × (j ≤ before j + n)) → (suc n ≤ next_row c before (suc n) k + k) × (k ≤ next_row c before (suc n) k + suc n)
unfolding next_row
row_far c before n zero far = (omega arith, omega arith)
row_far c before n (suc k) far =
    let step = row_far c before n k far in
    let here = far k in
    let next = far (suc k) in
    (omega (arith, clamps), omega (arith, clamps))

-- nor any of the last row
rows_far : (xs ys : List ℕ) (n : ℕ) (before : ℕ → ℕ) → ((j : ℕ) → (n ≤ before j + j) × (j ≤ before j + n)) → (k : ℕ) → (n + length xs ≤ rows nat_eq xs ys n before k + k) × (k ≤ rows nat_eq xs ys n before k + (n + length xs))
unfolding rows
rows_far [] ys n before far k = let here = far k in (omega arith, omega arith)
rows_far (x ∷ xs) ys n before far k =
    let rest = rows_far xs ys (suc n) (next_row (cost_at nat_eq x ys) before (suc n)) (λ j. row_far (cost_at nat_eq x ys) before n j far) k in
    (omega arith, omega arith)

-- there are as many edits as the lengths differ by
pub edits_far : (one other : List ℕ) → (length one ≤ edits one other + length other) × (length other ≤ edits one other + length one)
edits_far one other =
    let far = rows_far one other 0 (λ j. j) (λ j. (omega arith, omega arith)) (length other) in
    (omega arith, omega arith)

-- ---- distances

-- the lesser of both are as near
pub least_near : (far a b x y : ℕ) → IsAsNear far a x → IsAsNear far b y → IsAsNear far (min a b) (min x y)
least_near far a b x y one other = omega (arith, clamps)

-- names that have no other part
pub whole_near : (far whole : ℕ) (one other : List ℕ) → own_name one ≡ one → own_name other ≡ other → IsAsNear far (edits one other) whole → IsAsNear far (distance one other) whole
whole_near far whole one other own its near =
    let same : distance one other ≡ edits one other =
    (λ j. min (min (edits one other) (edits one (its j))) (min (edits (own j) other) (edits (own j) (its j)))) ∙ omega (arith, clamps) in
    ap (λ n. min n far) same ∙ near

-- what is told of a name at a distance that is not too far
pub same_near : (counted : Counted) (one other far least : ℕ) → far < least → IsAsNear least one other → near_at counted one far ≡ near_at counted other far
same_near counted one other far least near same =
    elim (cases_eq one far) [
      | inl here ↦
          let there : one ≡ other = omega (arith, clamps) in
          ap (λ n. near_at counted n far) there
      | inr apart ↦
          let apart' : other ≢ far = λ e. apart (omega (arith, clamps)) in
          ap (λ b. cond b (record { name = counted.0; lines = counted.1; distance = one } ∷ []) []) (ne_eqb one far apart)
          ∙ sym (ap (λ b. cond b (record { name = counted.0; lines = counted.1; distance = other } ∷ []) []) (ne_eqb other far apart'))
    ]
