-- What is said of the items of two lists that stand at one place, in order.
use Rattle.std.specs.Prelude.{ℕ, ◌+◌, List, [], ◌∷◌, ◌++◌}

-- of the pairs, the first of which has this place
abbrev pub pairs_from : {X Y Z : Type 0} → (ℕ → X → Y → List Z) → ℕ → List X → List Y → List Z
pairs_from said place [] ys = []
pairs_from said place (x ∷ xs) [] = []
pairs_from said place (x ∷ xs) (y ∷ ys) = said place x y ++ pairs_from said (place + 1) xs ys

-- of all pairs, whose places are counted from 0 on
abbrev pub of_pairs : {X Y Z : Type 0} → (ℕ → X → Y → List Z) → List X → List Y → List Z
of_pairs said xs ys = pairs_from said 0 xs ys
