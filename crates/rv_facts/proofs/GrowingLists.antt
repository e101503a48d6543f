-- Lists that grow by one piece after another.
use Rattle.std.proofs.Common.{◌≡◌, ℕ, ◌+◌, ◌<◌, List, ◌++◌, length, drop, get_or, flat_map, refl, sym, ap, ◌∙◌, append_assoc, add-one}
use Rattle.std.proofs.lemmas.List.{drop_more, flat_map_more, append-nil}
use Rattle.rv_model.specs.Numbers.{list_of}

-- none of the numbered pieces so far
pub none_numbered : {X : Type 0} (f : ℕ → List X) (o : List X) → o ≡ o ++ flat_map f (list_of (λ i. i) 0)
unfolding list_of
none_numbered f o = sym (append-nil o)

-- one numbered piece more
pub more_numbered : {X : Type 0} (f : ℕ → List X) (o m n : List X) (k : ℕ) → m ≡ o ++ flat_map f (list_of (λ i. i) k) → n ≡ m ++ f k → n ≡ o ++ flat_map f (list_of (λ i. i) (k + 1))
unfolding list_of
more_numbered {X} f o m n k so_far grown = grown ∙ ap (λ (z : List X). z ++ f k) so_far ∙ flat_map_more f o (list_of (λ i. i) k) k ∙ ap (λ (z : List ℕ). o ++ flat_map f z) (rw (add-one k) refl)

-- one piece more of those that are to come
pub more_pieces : {X Y : Type 0} (f : X → List Y) (xs : List X) (place : ℕ) (x : X) (m n total : List Y) → place < length xs → x ≡ get_or xs place x → m ++ flat_map f (drop place xs) ≡ total → n ≡ m ++ f x
    → n ++ flat_map f (drop (place + 1) xs) ≡ total
more_pieces {X} {Y} f xs place x m n total lt is so_far grown =
    let rest : List Y = flat_map f (drop (place + 1) xs) in
    ap (λ (z : List Y). z ++ rest) grown ∙ append_assoc m (f x) rest ∙ ap (λ (z : X). m ++ (f z ++ rest)) is ∙ ap (λ (z : List X). m ++ flat_map f z) (sym (drop_more xs place x lt)) ∙ so_far
