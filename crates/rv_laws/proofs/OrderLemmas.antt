-- Lists in an order in which elements that may stand either way pass the same tests: what passes each test tells the list.
use Rattle.std.proofs.Common.{◌≡◌, Bool, true, false, List, [], ◌∷◌, ◌⊎◌, inl, inr, refl, sym, ap, ◌∙◌, subst}
use Rattle.std.specs.Prelude.{filter}
use Rattle.rv_laws.proofs.ListLemmas.{Every}

-- one of the list
abbrev pub In : {X : Type 0} → X → List X → Type 0
In x [] = ⊥
In x (y ∷ ys) = (x ≡ y) ⊎ In x ys

module _ {X : Type 0} where
  -- one of some is one of all
  in-filter : (test : X → Bool) (x : X) (xs : List X) → In x (filter test xs) → In x xs
  in-filter test x [] some = some
  in-filter test x (y ∷ ys) some = go (test y) refl (in-filter test x ys)
    where
      go : (b : Bool) → test y ≡ b → (In x (filter test ys) → In x ys) → In x (y ∷ ys)
      go true kept rest =
          let here : (x ≡ y) ⊎ In x (filter test ys) = rw kept at some in
          elim here [ inl same ↦ inl same | inr later ↦ inr (rest later) ]
      go false gone rest = inr (rest (rw gone at some))

  -- what holds of each holds of one
  pub every-in : (P : X → Type 0) (xs : List X) → Every P xs → (x : X) → In x xs → P x
  every-in P [] all x in' = absurd in'
  every-in P (y ∷ ys) all x (inl same) = subst P (sym same) all.0
  every-in P (y ∷ ys) all x (inr later) = every-in P ys all.1 x later

  -- what passes is kept first
  first-kept : (test : X → Bool) (x : X) (xs : List X) → test x ≡ true → filter test (x ∷ xs) ≡ x ∷ filter test xs
  first-kept test x xs kept = rw kept refl

  -- the first that passes stands behind what does not
  behind : (test : X → Bool) (x y : X) (xs ys : List X) → test x ≡ true → test y ≡ false → filter test (x ∷ xs) ≡ filter test (y ∷ ys) → In x ys
  behind test x y xs ys kept gone same =
      let away : filter test (y ∷ ys) ≡ filter test ys = rw gone refl in
      let found : x ∷ filter test xs ≡ filter test ys = sym (first-kept test x xs kept) ∙ same ∙ away in
      in-filter test x ys (subst (In x) found (inl refl))

  -- two that both pass first are one
  heads : (test : X → Bool) (x y : X) (xs ys : List X) → test x ≡ true → test y ≡ true → filter test (x ∷ xs) ≡ filter test (y ∷ ys) → x ≡ y
  heads test x y xs ys kept kept' same = let both : x ∷ filter test xs ≡ y ∷ filter test ys = sym (first-kept test x xs kept) ∙ same ∙ first-kept test y ys kept' in cc

  -- without the first
  tails : (test : X → Bool) (x : X) (xs ys : List X) → filter test (x ∷ xs) ≡ filter test (x ∷ ys) → filter test xs ≡ filter test ys
  tails test x xs ys same = go (test x) refl
    where
      go : (b : Bool) → test x ≡ b → filter test xs ≡ filter test ys
      go true kept = let both : x ∷ filter test xs ≡ x ∷ filter test ys = rw kept at same in cc
      go false gone = rw gone at same

module _ {X I : Type 0} (Before : X → X → Type 0) (test : I → X → Bool) where
  -- each may stand before those after it
  abbrev pub InOrder : List X → Type 0
  InOrder [] = Unit {0}
  InOrder (x ∷ xs) = Every (Before x) xs × InOrder xs

  -- two that may stand either way pass the same tests
  abbrev pub TellsTests : List X → Type 0
  TellsTests xs = (x y : X) → In x xs → In y xs → Before x y → Before y x → (i : I) → test i x ≡ true → test i y ≡ true

  -- it passes a test
  abbrev pub PassesOne : X → Type 0
  PassesOne x = (i : I) × (test i x ≡ true)

  -- lists in order of which the same passes each test are one list
  pub same-list : (xs ys : List X) → InOrder xs → InOrder ys → TellsTests xs → Every PassesOne xs → Every PassesOne ys → ((i : I) → filter (test i) xs ≡ filter (test i) ys) → xs ≡ ys
  same-list [] [] up up' tells all all' each = refl
  same-list [] (y ∷ ys) up up' tells all all' each = absurd (let no : [] ≡ y ∷ filter (test all'.0.0) ys = each all'.0.0 ∙ first-kept (test all'.0.0) y ys all'.0.1 in cc)
  same-list (x ∷ xs) [] up up' tells all all' each = absurd (let no : x ∷ filter (test all.0.0) xs ≡ [] = sym (first-kept (test all.0.0) x xs all.0.1) ∙ each all.0.0 in cc)
  same-list (x ∷ xs) (y ∷ ys) up up' tells all all' each = go (test i y) refl (test j x) refl (same-list xs ys up.1 up'.1 (λ u v a b. tells u v (inr a) (inr b)) all.1 all'.1)
    where
      i : I
      i = all.0.0

      j : I
      j = all'.0.0

      with-head : x ≡ y → (((k : I) → filter (test k) xs ≡ filter (test k) ys) → xs ≡ ys) → x ∷ xs ≡ y ∷ ys
      with-head head rest =
          let tail = rest (λ k. tails (test k) x xs ys (each k ∙ ap (λ (z : X). filter (test k) (z ∷ ys)) (sym head))) in
          ap (λ (z : X). z ∷ xs) head ∙ ap (λ (zs : List X). y ∷ zs) tail

      go : (b : Bool) → test i y ≡ b → (c : Bool) → test j x ≡ c → (((k : I) → filter (test k) xs ≡ filter (test k) ys) → xs ≡ ys) → x ∷ xs ≡ y ∷ ys
      go true passes c is rest = with-head (heads (test i) x y xs ys all.0.1 passes (each i)) rest
      go false fails true passes rest = with-head (heads (test j) x y xs ys passes all'.0.1 (each j)) rest
      go false fails false fails' rest =
          let x_behind : In x ys = behind (test i) x y xs ys all.0.1 fails (each i) in
          let y_behind : In y xs = behind (test j) y x ys xs all'.0.1 fails' (sym (each j)) in
          let passes = tells x y (inl refl) (inr y_behind) (every-in (Before x) xs up.0 y y_behind) (every-in (Before y) ys up'.0 x x_behind) i all.0.1 in
          absurd (let no : true ≡ false = sym passes ∙ fails in cc)
