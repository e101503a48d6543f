-- No list of cubes is longer than its size, and where a size is 0 nothing is joined.
use Rattle.std.proofs.Common.{◌≡◌, ℕ, suc, ◌+◌, ◌*◌, ◌≤◌, not, Bool, true, false, ◌⊎◌, inl, inr, List, [], ◌∷◌, ◌++◌, length, map, cond, min, arith, refl, sym, ap, ◌∙◌, length-append}
use Rattle.std.specs.Prelude.{filter}
use Rattle.std.proofs.lemmas.List.{length-map}
use Rattle.std.proofs.lemmas.Nat.{mul-le}
use Rattle.rv_model.specs.Ltl.{Ltl, True, Atom, Not, And, Or, Imply, Equivalent}
use Rattle.rv_labels.specs.declared.cube.Cube.{Cube}
use Rattle.rv_labels.specs.Cubes.{cubes_of, cube_unions, unions_with, union_of, is_possible, whole_if}
use Rattle.rv_model.specs.Numbers.{one_if}
use Rattle.rv_labels.specs.Sizes.{size_of}

-- to leave some out makes no list longer
length_filter : (p : Cube → Bool) (cs : List Cube) → length (filter p cs) ≤ length cs
length_filter p [] = omega arith
length_filter p (c ∷ cs) = go (p c) (length_filter p cs)
  where
    go : (b : Bool) → length (filter p cs) ≤ length cs → length (cond b (c ∷ filter p cs) (filter p cs)) ≤ suc (length cs)
    go true rest = omega arith
    go false rest = omega arith

-- joined lists have at most the product
length_cube_unions : (cs ds : List Cube) → length (cube_unions cs ds) ≤ length cs * length ds
length_cube_unions [] ds = omega arith
length_cube_unions (c ∷ cs) ds =
    grind (arith, length-append (unions_with ds c) (cube_unions cs ds), length_filter is_possible (map (union_of c) ds), length-map ds (union_of c), length_cube_unions cs ds)

-- joined lists are no longer than the product of what bounds them
cube_unions_within : (cs ds : List Cube) (m n : ℕ) → length cs ≤ m → length ds ≤ n → length (cube_unions cs ds) ≤ m * n
cube_unions_within cs ds m n h k = let a = length_cube_unions cs ds in let b = mul-le (length cs) (length ds) m n h k in omega arith

-- nor is one after the other longer than the sum
append_within : (cs ds : List Cube) (m n : ℕ) → length cs ≤ m → length ds ≤ n → length (cs ++ ds) ≤ m + n
append_within cs ds m n h k = omega (arith, length-append cs ds)

-- the one cube that every letter meets, or none
whole_within : (sign : Bool) → length (whole_if sign) ≤ one_if sign
whole_within true = omega arith
whole_within false = omega arith

-- no list is longer than its size
pub cubes_within : (f : Ltl) (sign : Bool) → length (cubes_of f sign) ≤ size_of f sign
cubes_within True sign = whole_within sign
cubes_within (Atom a) sign = omega arith
cubes_within (Not f) sign = cubes_within f (not sign)
cubes_within (And f g) true = cube_unions_within _ _ _ _ (cubes_within f true) (cubes_within g true)
cubes_within (And f g) false = append_within _ _ _ _ (cubes_within f false) (cubes_within g false)
cubes_within (Or f g) true = append_within _ _ _ _ (cubes_within f true) (cubes_within g true)
cubes_within (Or f g) false = cube_unions_within _ _ _ _ (cubes_within f false) (cubes_within g false)
cubes_within (Imply f g) true = append_within _ _ _ _ (cubes_within f false) (cubes_within g true)
cubes_within (Imply f g) false = cube_unions_within _ _ _ _ (cubes_within f true) (cubes_within g false)
cubes_within (Equivalent f g) true = append_within _ _ _ _ (cube_unions_within _ _ _ _ (cubes_within f true) (cubes_within g true)) (cube_unions_within _ _ _ _ (cubes_within f false) (cubes_within g false))
cubes_within (Equivalent f g) false = append_within _ _ _ _ (cube_unions_within _ _ _ _ (cubes_within f true) (cubes_within g false)) (cube_unions_within _ _ _ _ (cubes_within f false) (cubes_within g true))
cubes_within _ sign = whole_within (not sign)

-- a list that is no longer than 0 is empty
empty : (cs : List Cube) → length cs ≤ 0 → cs ≡ []
empty [] h = refl
empty (c ∷ cs) h = absurd (omega arith)

-- nothing is joined to the empty list
cube_unions_none : (cs : List Cube) → cube_unions cs [] ≡ []
cube_unions_none [] = refl
cube_unions_none (c ∷ cs) = cube_unions_none cs

-- where one of two lists is counted as empty, the joined lists are empty
pub none_cube_unions : (f : Ltl) (s : Bool) (g : Ltl) (t : Bool) (m n : ℕ) → m ≡ min 65 (size_of f s) → n ≡ min 65 (size_of g t) → (m ≡ 0) ⊎ (n ≡ 0) → cube_unions (cubes_of f s) (cubes_of g t) ≡ []
none_cube_unions f s g t m n h k (inl e) = ap (λ cs. cube_unions cs (cubes_of g t)) (empty (cubes_of f s) (omega (arith, cubes_within f s)))
none_cube_unions f s g t m n h k (inr e) = ap (λ ds. cube_unions (cubes_of f s) ds) (empty (cubes_of g t) (omega (arith, cubes_within g t))) ∙ cube_unions_none (cubes_of f s)

-- lists that are not made are joined to nothing, which is right where they are joined to nothing
pub cube_unions_if : (wanted : Bool) (cs ds : List Cube) → (wanted ≡ false → cube_unions cs ds ≡ []) → cube_unions (cond wanted cs []) (cond wanted ds []) ≡ cube_unions cs ds
cube_unions_if true cs ds h = refl
cube_unions_if false cs ds h = sym (h refl)
