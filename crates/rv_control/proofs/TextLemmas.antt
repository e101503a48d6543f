-- Lists that grow by one.
use Rattle.std.proofs.Common.{◌≡◌, ℕ, suc, ◌+◌, ◌<◌, ◌≤◌, length, take, get_or, Bool, true, false, List, [], ◌∷◌, ◌++◌, refl, sym, ap, ◌∙◌, add-one, append_assoc, append-nil, arith, if◌then◌else◌}
use Rattle.std.specs.Prelude.{slice_get, flat_map, Some}
use Rattle.std.proofs.lemmas.Option.{get_or_from_slice_get, slice_get_within}
use Rattle.std.proofs.lemmas.List.{take_all, take_more, flat_map_more}
use Rattle.rv_bind.specs.declared.bindings.Item.{Item}
use Rattle.rv_bind.specs.declared.bindings.Item.TheVariants as items
use Rattle.rv_control.specs.Trees.{ControlValue, is_in_container}
use Rattle.rv_control.specs.FileTexts.{monitors_in}

-- no monitors
pub monitors_in-none : (tree : ControlValue) (container : ℕ) (old : List Item) → old ≡ old ++ monitors_in tree container 0
unfolding monitors_in
monitors_in-none tree container old = sym (append-nil old)

module _ (tree : ControlValue) (container n : ℕ) (old listed : List Item) where
  -- one monitor more, by whether it is in the container
  monitors_in_more : (b : Bool) → is_in_container container (slice_get tree.monitors n) ≡ b → monitors_in tree container (n + 1) ≡ monitors_in tree container n ++ (if b then items.Monitor n ∷ [] else [])
  unfolding monitors_in
  monitors_in_more b is = ap (monitors_in tree container) (add-one n) ∙ ap (λ (t : Bool). monitors_in tree container n ++ (if t then items.Monitor n ∷ [] else [])) is

  -- one monitor more that is in the container
  pub monitors_in-yes : is_in_container container (slice_get tree.monitors n) ≡ true → listed ≡ old ++ monitors_in tree container n → listed ++ items.Monitor n ∷ [] ≡ old ++ monitors_in tree container (n + 1)
  monitors_in-yes is so_far = ap (λ (z : List Item). z ++ items.Monitor n ∷ []) so_far ∙ append_assoc old (monitors_in tree container n) (items.Monitor n ∷ []) ∙ ap (λ (z : List Item). old ++ z) (sym (monitors_in_more true is))

  -- one that is not
  pub monitors_in-no : is_in_container container (slice_get tree.monitors n) ≡ false → listed ≡ old ++ monitors_in tree container n → listed ≡ old ++ monitors_in tree container (n + 1)
  monitors_in-no is so_far = so_far ∙ ap (λ (z : List Item). old ++ z) (sym (monitors_in_more false is ∙ append-nil _))

module _ {X Y : Type 0} (f : X → List Y) (xs : List X) where
  -- what is made of the first items, behind a text, and of one item more
  pub grown-more : (front old : List Y) (i : ℕ) (d : X) → i < length xs → old ≡ front ++ flat_map f (take i xs) → old ++ f (get_or xs i d) ≡ front ++ flat_map f (take (i + 1) xs)
  grown-more front old i d inside so_far =
      ap (λ (z : List Y). z ++ f (get_or xs i d)) so_far ∙ flat_map_more f front (take i xs) (get_or xs i d)
      ∙ ap (λ (z : List X). front ++ flat_map f z) (sym (take_more xs i d inside))

  -- what is made of all
  pub grown-all : (i : ℕ) → length xs ≤ i → flat_map f (take i xs) ≡ flat_map f xs
  grown-all i past = ap (flat_map f) (take_all i xs past)

-- one name more
pub taken-more : (names : List (List ℕ)) (i : ℕ) (name : List ℕ) → slice_get names i ≡ Some name → take i names ++ name ∷ [] ≡ take (i + 1) names
taken-more names i name is =
    ap (λ (n : List ℕ). take i names ++ n ∷ []) (sym (get_or_from_slice_get names i name [] is)) ∙ sym (take_more names i [] (slice_get_within names i name is))
