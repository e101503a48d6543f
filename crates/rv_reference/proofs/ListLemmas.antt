-- Lists with a first element, and with a last one.
use Rattle.std.proofs.Common.{◌≡◌, ℕ, ◌+◌, ◌-◌, ◌<◌, ◌≤◌, Bool, true, false, List, [], ◌∷◌, ◌++◌, reverse, filter, length, take, drop, get_or, arith, refl, sym, ap, ◌∙◌, sub-one}
use Rattle.std.proofs.lemmas.List.{take_all, reverse-append, append-nil}
use Rattle.std.proofs.lemmas.List.Elements.{filter_more}

-- a list that is not empty has a first element and others
pub split_first : {X : Type 0} (xs : List X) (d : X) → 1 ≤ length xs → xs ≡ get_or xs 0 d ∷ take (length xs - 1) (drop 1 xs)
split_first [] d le = absurd (omega arith)
split_first (x ∷ xs) d le = ap (λ ys. x ∷ ys) (rw sub-one (sym (take_all (length xs) xs (omega arith))))

-- a list that is not longer than 0 is empty
pub is_empty : {X : Type 0} (xs : List X) → length xs < 1 → xs ≡ []
is_empty [] lt = refl
is_empty (x ∷ xs) lt = absurd (omega arith)

-- a list that is not empty has a last element and others
pub split_last : {X : Type 0} (xs : List X) (d : X) → 1 ≤ length xs → xs ≡ take (length xs - 1) xs ++ get_or xs (length xs - 1) d ∷ []
split_last [] d le = absurd (omega arith)
split_last (x ∷ []) d le = refl
split_last (x ∷ y ∷ xs) d le = rw sub-one (ap (λ ys. x ∷ ys) (rw sub-one at (split_last (y ∷ xs) d (omega arith))))

-- backwards the last one is first
pub reverse_last : {X : Type 0} (xs : List X) (d : X) → 1 ≤ length xs → reverse xs ≡ get_or xs (length xs - 1) d ∷ reverse (take (length xs - 1) xs)
reverse_last xs d le = ap reverse (split_last xs d le) ∙ reverse-append (take (length xs - 1) xs) (get_or xs (length xs - 1) d ∷ [])

-- an element that passes a test is the last of those that do
pub filter_yes : {X : Type 0} (p : X → Bool) (xs : List X) (i : ℕ) (d : X) (kept : List X) → i < length xs → p (get_or xs i d) ≡ true → kept ≡ filter p (take i xs) → kept ++ get_or xs i d ∷ [] ≡ filter p (take (i + 1) xs)
filter_yes {X = X} p xs i d kept lt t h = sym (filter_more p xs i d lt ∙ rw t (ap (λ (k : List X). k ++ get_or xs i d ∷ []) (sym h)))

-- and one that does not adds none
pub filter_no : {X : Type 0} (p : X → Bool) (xs : List X) (i : ℕ) (d : X) (kept : List X) → i < length xs → p (get_or xs i d) ≡ false → kept ≡ filter p (take i xs) → kept ≡ filter p (take (i + 1) xs)
filter_no p xs i d kept lt t h = sym (filter_more p xs i d lt ∙ rw t (append-nil (filter p (take i xs)) ∙ sym h))
