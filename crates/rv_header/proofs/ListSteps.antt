-- Lists that are gone through by their places.
use Rattle.std.proofs.Common.{◌≡◌, ℕ, suc, ◌+◌, ◌<◌, ◌≤◌, Bool, true, false, List, [], ◌∷◌, ◌++◌, length, get_or, drop, Option, Some, None, cond, refl, sym, ap, ◌∙◌, arith, append_assoc, drop-cons}
use Rattle.std.specs.Prelude.{map, ◌||◌, slice_get, ◌%◌, ◌/◌, ◌==◌}
use Rattle.std.specs.List.{flat_map, list_any, enumerate_from}
use Rattle.std.specs.Option.{option_map, is_some}
use Rattle.std.specs.Str.{bytes_eq}
use Rattle.std.proofs.lemmas.Option.{get_or_from_slice_get}
use Rattle.std.proofs.lemmas.List.{drop_all}
use Rattle.rv_dot.specs.Sets.{place_of, stands_in}
use Rattle.rv_dot.specs.Canonical.{State, states_marked}

-- the member at a place, and those behind it
pub cut_at : {A : Type 0} (xs : List A) (place : ℕ) (x : A) → place < length xs → slice_get xs place ≡ Some x → drop place xs ≡ x ∷ drop (place + 1) xs
cut_at {A} xs place x lt at =
    let next : suc place ≡ place + 1 = omega arith in
    drop-cons xs place x lt ∙ ap (λ (y : A). y ∷ drop (suc place) xs) (get_or_from_slice_get xs place x x at) ∙ ap (λ (k : ℕ). x ∷ drop k xs) next

-- the same, by the member that stands there
pub cut_here : {A : Type 0} (xs : List A) (place : ℕ) (d : A) → place < length xs → drop place xs ≡ get_or xs place d ∷ drop (place + 1) xs
cut_here {A} xs place d lt =
    let next : suc place ≡ place + 1 = omega arith in
    drop-cons xs place d lt ∙ ap (λ (k : ℕ). get_or xs place d ∷ drop k xs) next

-- no member is left
pub cut_none : {A : Type 0} (xs : List A) (place : ℕ) → length xs ≤ place → drop place xs ≡ []
cut_none xs place h = drop_all place xs h

-- a list of no members
pub is_empty : {A : Type 0} (xs : List A) → length xs ≡ 0 → xs ≡ []
is_empty [] h = refl
is_empty (x ∷ xs) h = absurd (omega (arith, h))

-- none of the members that are left passes
pub any_none : {A : Type 0} (p : A → Bool) (xs : List A) (place : ℕ) → length xs ≤ place → list_any p (drop place xs) ≡ false
any_none p xs place h = rw (cut_none xs place h) refl

-- the next one passes
pub any_here : {A : Type 0} (p : A → Bool) (xs : List A) (place : ℕ) (x : A) → place < length xs → slice_get xs place ≡ Some x → p x ≡ true → list_any p (drop place xs) ≡ true
any_here p xs place x lt at passes = rw (cut_at xs place x lt at, passes) refl

-- the next one does not pass
pub any_later : {A : Type 0} (p : A → Bool) (xs : List A) (place : ℕ) (x : A) → place < length xs → slice_get xs place ≡ Some x → p x ≡ false → list_any p (drop (place + 1) xs) ≡ list_any p (drop place xs)
any_later p xs place x lt at fails = rw (cut_at xs place x lt at, fails) refl

-- a name stands in a list where one of its members has the same bytes
pub stands_any : (names : List (List ℕ)) (name : List ℕ) → stands_in names name ≡ list_any (λ n. bytes_eq n name) names
unfolding place_of
stands_any [] name = refl
stands_any (x ∷ names) name = go (bytes_eq x name) (place_of name names) (stands_any names name)
  where
    go : (same : Bool) (place : Option ℕ) → is_some place ≡ list_any (λ n. bytes_eq n name) names → is_some (cond same (Some 0) (option_map (λ n. n + 1) place)) ≡ (same || list_any (λ n. bytes_eq n name) names)
    go true place later = refl
    go false None later = later
    go false (Some k) later = later

-- one member more is appended
pub more : {A : Type 0} (f : A → List ℕ) (xs : List A) (place : ℕ) (x : A) (out next total : List ℕ) → place < length xs → slice_get xs place ≡ Some x
    → out ++ flat_map f (drop place xs) ≡ total → next ≡ out ++ f x → next ++ flat_map f (drop (place + 1) xs) ≡ total
more {A} f xs place x out next total lt at so_far grown =
    ap (λ (o : List ℕ). o ++ flat_map f (drop (place + 1) xs)) grown ∙ append_assoc out (f x) (flat_map f (drop (place + 1) xs))
    ∙ ap (λ (ys : List A). out ++ flat_map f ys) (sym (cut_at xs place x lt at)) ∙ so_far

-- one member more of the values
pub mapped_more : {A : Type 0} (f : A → List ℕ) (xs : List A) (place : ℕ) (x : A) (out next total : List (List ℕ)) → place < length xs → slice_get xs place ≡ Some x
    → out ++ map f (drop place xs) ≡ total → next ≡ out ++ f x ∷ [] → next ++ map f (drop (place + 1) xs) ≡ total
mapped_more {A} f xs place x out next total lt at so_far grown =
    ap (λ (o : List (List ℕ)). o ++ map f (drop (place + 1) xs)) grown ∙ append_assoc out (f x ∷ []) (map f (drop (place + 1) xs))
    ∙ ap (λ (ys : List A). out ++ map f ys) (sym (cut_at xs place x lt at)) ∙ so_far

-- one numbered member more is appended
pub numbered_more : (f : ℕ → List ℕ) (xs : List (List ℕ)) (place : ℕ) (out next total : List ℕ) → place < length xs
    → out ++ flat_map (λ (p : ℕ × List ℕ). f p.0) (enumerate_from place (drop place xs)) ≡ total → next ≡ out ++ f place → next ++ flat_map (λ (p : ℕ × List ℕ). f p.0) (enumerate_from (place + 1) (drop (place + 1) xs)) ≡ total
numbered_more f xs place out next total lt so_far grown =
    let x : List ℕ = get_or xs place [] in
    let cut : drop place xs ≡ x ∷ drop (place + 1) xs = cut_here xs place [] lt in
    let later : List ℕ = flat_map (λ (p : ℕ × List ℕ). f p.0) (enumerate_from (place + 1) (drop (place + 1) xs)) in
    ap (λ (o : List ℕ). o ++ later) grown ∙ append_assoc out (f place) later
    ∙ ap (λ (ys : List (List ℕ)). out ++ flat_map (λ (p : ℕ × List ℕ). f p.0) (enumerate_from place ys)) (sym cut) ∙ so_far

-- one numbered member more of the values
pub numbered_mapped_more : (f : ℕ → List ℕ) (xs : List (List ℕ)) (place : ℕ) (out next total : List (List ℕ)) → place < length xs
    → out ++ map (λ (p : ℕ × List ℕ). f p.0) (enumerate_from place (drop place xs)) ≡ total → next ≡ out ++ f place ∷ [] → next ++ map (λ (p : ℕ × List ℕ). f p.0) (enumerate_from (place + 1) (drop (place + 1) xs)) ≡ total
numbered_mapped_more f xs place out next total lt so_far grown =
    let x : List ℕ = get_or xs place [] in
    let cut : drop place xs ≡ x ∷ drop (place + 1) xs = cut_here xs place [] lt in
    let later : List (List ℕ) = map (λ (p : ℕ × List ℕ). f p.0) (enumerate_from (place + 1) (drop (place + 1) xs)) in
    ap (λ (o : List (List ℕ)). o ++ later) grown ∙ append_assoc out (f place ∷ []) later
    ∙ ap (λ (ys : List (List ℕ)). out ++ map (λ (p : ℕ × List ℕ). f p.0) (enumerate_from place ys)) (sym cut) ∙ so_far

-- one mark more
pub marks_more : (f : State → List ℕ) (names : List (List ℕ)) (place bits : ℕ) (out next total : List (List ℕ)) (x : List ℕ) → place < length names
    → ((name : List ℕ) → f (record { name = name; is_marked = bits % 2 == 1 }) ≡ x)
    → out ++ map f (states_marked bits (drop place names)) ≡ total → next ≡ out ++ x ∷ [] → next ++ map f (states_marked (bits / 2) (drop (place + 1) names)) ≡ total
marks_more f names place bits out next total x lt is so_far grown =
    let name : List ℕ = get_or names place [] in
    let cut : drop place names ≡ name ∷ drop (place + 1) names = cut_here names place [] lt in
    let later : List (List ℕ) = map f (states_marked (bits / 2) (drop (place + 1) names)) in
    ap (λ (o : List (List ℕ)). o ++ later) grown ∙ append_assoc out (x ∷ []) later ∙ ap (λ (y : List ℕ). out ++ (y ∷ later)) (sym (is name))
    ∙ ap (λ (ys : List (List ℕ)). out ++ map f (states_marked bits ys)) (sym cut) ∙ so_far
