-- What is said of the pairs of two lists, pair by pair.
use Rattle.std.proofs.Common.{◌≡◌, ℕ, ◌+◌, ◌<◌, ◌≤◌, List, [], ◌∷◌, ◌++◌, ◌⊎◌, inl, inr, length, drop, get_or, min, refl, sym, ap, ◌∙◌, arith, append_assoc, append-nil}
use Rattle.std.proofs.lemmas.List.{drop_more, drop_all}
use Rattle.rv_facts.specs.Pairs.{pairs_from}

-- the shorter of two lists has ended
either : (a b place : ℕ) → min a b ≤ place → (a ≤ place) ⊎ (b ≤ place)
either a b place le = grind arith

module _ {X Y Z : Type 0} (said : ℕ → X → Y → List Z) where
  -- the first pair of what is left
  pub next_pair : (xs : List X) (ys : List Y) (place : ℕ) (x : X) (y : Y) → place < length xs → place < length ys
      → pairs_from said place (drop place xs) (drop place ys) ≡ said place (get_or xs place x) (get_or ys place y) ++ pairs_from said (place + 1) (drop (place + 1) xs) (drop (place + 1) ys)
  next_pair xs ys place x y lt lt' =
      ap (λ (z : List X). pairs_from said place z (drop place ys)) (drop_more xs place x lt)
      ∙ ap (λ (z : List Y). pairs_from said place (get_or xs place x ∷ drop (place + 1) xs) z) (drop_more ys place y lt')

  -- one pair more
  pub more_pairs : (xs : List X) (ys : List Y) (place : ℕ) (x : X) (y : Y) (m n total : List Z) → place < length xs → place < length ys → x ≡ get_or xs place x → y ≡ get_or ys place y
      → m ++ pairs_from said place (drop place xs) (drop place ys) ≡ total → n ≡ m ++ said place x y
      → n ++ pairs_from said (place + 1) (drop (place + 1) xs) (drop (place + 1) ys) ≡ total
  more_pairs xs ys place x y m n total lt lt' is is' so_far grown =
      let rest : List Z = pairs_from said (place + 1) (drop (place + 1) xs) (drop (place + 1) ys) in
      ap (λ (z : List Z). z ++ rest) grown ∙ append_assoc m (said place x y) rest
      ∙ ap (λ (z : X). m ++ (said place z y ++ rest)) is ∙ ap (λ (z : Y). m ++ (said place (get_or xs place x) z ++ rest)) is'
      ∙ ap (λ (z : List Z). m ++ z) (sym (next_pair xs ys place x y lt lt')) ∙ so_far

  -- nothing is paired with nothing
  no_right : (xs : List X) (place : ℕ) → pairs_from said place xs [] ≡ []
  no_right [] place = refl
  no_right (x ∷ xs) place = refl

  -- no pair is left
  pub no_pair : (xs : List X) (ys : List Y) (place : ℕ) → min (length xs) (length ys) ≤ place → pairs_from said place (drop place xs) (drop place ys) ≡ []
  no_pair xs ys place le = elim (either (length xs) (length ys) place le) [
    | inl left ↦ ap (λ (z : List X). pairs_from said place z (drop place ys)) (drop_all place xs left)
    | inr right ↦ ap (λ (z : List Y). pairs_from said place (drop place xs) z) (drop_all place ys right) ∙ no_right (drop place xs) place
  ]

  -- all pairs are told
  pub all_pairs : (xs : List X) (ys : List Y) (place : ℕ) (m total : List Z) → min (length xs) (length ys) ≤ place → m ++ pairs_from said place (drop place xs) (drop place ys) ≡ total → m ≡ total
  all_pairs xs ys place m total le so_far = sym (append-nil m) ∙ ap (λ (z : List Z). m ++ z) (sym (no_pair xs ys place le)) ∙ so_far
