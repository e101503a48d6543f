-- Two lists that are gone through side by side.
use Rattle.std.proofs.Common.{◌≡◌, ℕ, zero, suc, ◌+◌, ◌<◌, ◌≤◌, List, [], ◌∷◌, ◌++◌, length, get_or, drop, min, refl, sym, ap, ◌∙◌, arith, append_assoc}
use Rattle.std.specs.List.{flat_map, zip}
use Rattle.std.proofs.lemmas.List.{append-nil}
use Rattle.std.proofs.lemmas.List.Concat.{flat_map-append}
use Rattle.rv_header.proofs.ListSteps.{cut_here}

-- the pair at a place, and those behind it
zip_here : (xs ys : List (List ℕ)) (place : ℕ) → place < min (length xs) (length ys) → zip (drop place xs) (drop place ys) ≡ (get_or xs place [], get_or ys place []) ∷ zip (drop (place + 1) xs) (drop (place + 1) ys)
zip_here xs ys place lt =
    let first : place < length xs = omega arith in
    let second : place < length ys = omega arith in
    rw (cut_here xs place [] first, cut_here ys place [] second) refl

-- beside nothing there is no pair
zip_empty : (xs : List (List ℕ)) → zip {X = List ℕ} xs [] ≡ []
zip_empty [] = refl
zip_empty (x ∷ xs) = refl

-- no pair is left
pub zip_none : (xs ys : List (List ℕ)) (place : ℕ) → min (length xs) (length ys) ≤ place → zip (drop place xs) (drop place ys) ≡ []
zip_none [] ys zero le = refl
zip_none (x ∷ xs) [] zero le = refl
zip_none (x ∷ xs) (y ∷ ys) zero le = absurd (omega (arith, le))
zip_none [] ys (suc place) le = refl
zip_none (x ∷ xs) [] (suc place) le = zip_empty (drop place xs)
zip_none (x ∷ xs) (y ∷ ys) (suc place) le = zip_none xs ys place (omega (arith, le))

-- one pair more is appended
pub zipped_more : (g : List ℕ × List ℕ → List ℕ) (xs ys : List (List ℕ)) (place : ℕ) (out next total : List ℕ) → place < min (length xs) (length ys)
    → out ++ flat_map g (zip (drop place xs) (drop place ys)) ≡ total → next ≡ out ++ g (get_or xs place [], get_or ys place []) → next ++ flat_map g (zip (drop (place + 1) xs) (drop (place + 1) ys)) ≡ total
zipped_more g xs ys place out next total lt so_far grown =
    let later : List (List ℕ × List ℕ) = zip (drop (place + 1) xs) (drop (place + 1) ys) in
    ap (λ (o : List ℕ). o ++ flat_map g later) grown ∙ append_assoc out (g (get_or xs place [], get_or ys place [])) (flat_map g later)
    ∙ ap (λ (zs : List (List ℕ × List ℕ)). out ++ flat_map g zs) (sym (zip_here xs ys place lt)) ∙ so_far

-- all pairs were appended
pub zipped_all : (g : List ℕ × List ℕ → List ℕ) (xs ys : List (List ℕ)) (place : ℕ) (out total : List ℕ) → min (length xs) (length ys) ≤ place
    → out ++ flat_map g (zip (drop place xs) (drop place ys)) ≡ total → out ≡ total
zipped_all g xs ys place out total le so_far =
    sym (append-nil out) ∙ ap (λ (zs : List (List ℕ × List ℕ)). out ++ flat_map g zs) (sym (zip_none xs ys place le)) ∙ so_far

-- texts of texts
pub flat_flat : {A B C : Type 0} (h : B → List C) (f : A → List B) (xs : List A) → flat_map h (flat_map f xs) ≡ flat_map (λ x. flat_map h (f x)) xs
flat_flat h f [] = refl
flat_flat {C = C} h f (x ∷ xs) = flat_map-append h (f x) (flat_map f xs) ∙ ap (λ (z : List C). flat_map h (f x) ++ z) (flat_flat h f xs)
