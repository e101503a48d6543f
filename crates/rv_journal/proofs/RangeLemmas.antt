-- Ranges of a list: what they are made of, and how many are in them.
use Rattle.std.proofs.Common.{◌≡◌, ℕ, ◌+◌, ◌-◌, ◌≤◌, Bool, List, [], ◌++◌, length, take, drop, ap, ◌∙◌, arith, length-append, length-take, take-add, drop-drop}
use Rattle.std.specs.Prelude.{filter, slice_range}
use Rattle.std.proofs.Math.Seq.{drop-append_seam}
use Rattle.std.proofs.lemmas.List.{take_all, take-append-le, drop-append-le, length-drop}
use Rattle.std.proofs.lemmas.List.Sums.{length-filter, count_by-le-length}

module _ {X : Type 0} where
  -- a range of a list that grows
  pub range-front : (xs ys : List X) (from to : ℕ) → from ≤ to → to ≤ length xs → slice_range (xs ++ ys) from to ≡ slice_range xs from to
  range-front xs ys from to le within =
      let room : to - from ≤ length (drop from xs) = let l = length-drop from xs in omega arith in
      ap (take (to - from)) (drop-append-le from xs ys (omega arith)) ∙ take-append-le (to - from) (drop from xs) ys room

  -- the range of what was added
  pub range-back : (xs ys : List X) → slice_range (xs ++ ys) (length xs) (length (xs ++ ys)) ≡ ys
  range-back xs ys =
      let many : length ys ≤ length (xs ++ ys) - length xs = let l = length-append xs ys in omega arith in
      ap (take (length (xs ++ ys) - length xs)) (drop-append_seam xs ys) ∙ take_all (length (xs ++ ys) - length xs) ys many

  -- no range
  pub range-none : (xs : List X) (n : ℕ) → slice_range xs n n ≡ []
  range-none xs n = let none : n - n ≡ 0 = omega arith in ap (λ (k : ℕ). take k (drop n xs)) none

  -- a range in two parts
  pub range-parts : (xs : List X) (from mid to : ℕ) → from ≤ mid → mid ≤ to → slice_range xs from to ≡ slice_range xs from mid ++ slice_range xs mid to
  range-parts xs from mid to le le' =
      let long : to - from ≡ (mid - from) + (to - mid) = omega arith in
      let at : from + (mid - from) ≡ mid = omega arith in
      ap (λ (k : ℕ). take k (drop from xs)) long ∙ take-add (mid - from) (to - mid) (drop from xs)
      ∙ ap (λ (z : List X). take (mid - from) (drop from xs) ++ take (to - mid) z) (drop-drop (mid - from) from xs ∙ ap (λ (k : ℕ). drop k xs) at)

  -- what passes is no more
  pub filter-few : (keep : X → Bool) (xs : List X) → length (filter keep xs) ≤ length xs
  filter-few keep xs = omega (arith, length-filter keep xs, count_by-le-length keep xs)

  -- the first elements are no more than all
  pub take-few : (n : ℕ) (xs : List X) → length (take n xs) ≤ length xs
  take-few n xs = omega (arith, length-take n xs)

  -- a range has no more than its places
  pub range-few : (xs : List X) (from to : ℕ) → length (slice_range xs from to) ≤ to - from
  range-few xs from to = omega (arith, length-take (to - from) (drop from xs))
