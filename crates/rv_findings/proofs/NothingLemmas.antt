-- When lists have no item: one after another, of pairs, and of places.
use Rattle.std.proofs.Common.{◌≡◌, ℕ, zero, suc, ◌+◌, ◌<◌, true, false, List, [], ◌∷◌, ◌++◌, inl, inr, length, get_or, flat_map, refl, sym, ap, ◌∙◌, subst, arith}
use Rattle.std.specs.Prelude.{◌↔◌}
use Rattle.std.proofs.lemmas.Bool.{false≢true}
use Rattle.std.proofs.lemmas.List.{append-nil}
use Rattle.std.proofs.lemmas.List.Concat.{flat_map-append}
use Rattle.rv_model.specs.Numbers.{list_of}
use Rattle.rv_facts.specs.Pairs.{of_pairs, pairs_from}
use Rattle.rv_findings.specs.OwnRules.{is_nothing}
use Rattle.rv_findings.specs.Watched.{EachPair}
use Rattle.rv_findings.proofs.SomeLemmas.{last_or}

-- ---- some or none

-- some are there
pub some_there : {X : Type 0} (xs : List X) → is_nothing xs ≡ false → 0 < length xs
some_there [] e = absurd (false≢true (sym e))
some_there (x ∷ xs) e = omega arith

-- and back
pub there_are : {X : Type 0} (xs : List X) → 0 < length xs → is_nothing xs ≡ false
there_are [] lt = absurd (omega arith)
there_are (x ∷ xs) lt = refl

-- none are
pub none_there : {X : Type 0} (xs : List X) → is_nothing xs ≡ true → xs ≡ []
none_there [] e = refl
none_there (x ∷ xs) e = absurd (false≢true e)

-- and back
pub none_is : {X : Type 0} (xs : List X) → xs ≡ [] → is_nothing xs ≡ true
none_is [] e = refl
none_is (x ∷ xs) e = absurd (let lt : length (x ∷ xs) ≡ 0 = ap length e in omega arith)

-- ---- lists

module _ {X : Type 0} where
  -- one item is some
  pub some_item : (x : X) (xs : List X) → x ∷ xs ≡ [] → ⊥
  some_item x xs e = let lt : length (x ∷ xs) ≡ 0 = ap length e in omega arith

  -- one after another
  pub no_first : (xs ys : List X) → xs ++ ys ≡ [] → xs ≡ []
  no_first [] ys e = refl
  no_first (x ∷ xs) ys e = absurd (some_item x (xs ++ ys) e)

  -- and so the second
  pub no_second : (xs ys : List X) → xs ++ ys ≡ [] → ys ≡ []
  no_second [] ys e = e
  no_second (x ∷ xs) ys e = absurd (some_item x (xs ++ ys) e)

  -- and back
  pub neither : (xs ys : List X) → xs ≡ [] → ys ≡ [] → xs ++ ys ≡ []
  neither xs ys e f = ap (λ (l : List X). l ++ ys) e ∙ f

  module _ {Y Z : Type 0} (said : ℕ → Y → Z → List X) where
    -- nothing is said of the pair at a place
    pair_at : (k place : ℕ) (ys : List Y) (zs : List Z) (y : Y) (z : Z) → pairs_from said place ys zs ≡ [] → k < length ys → k < length zs → said (place + k) (get_or ys k y) (get_or zs k z) ≡ []
    pair_at k place [] zs y z e lt lt' = absurd (omega arith)
    pair_at k place (w ∷ ys) [] y z e lt lt' = absurd (omega arith)
    pair_at zero place (w ∷ ys) (v ∷ zs) y z e lt lt' =
        let same : place ≡ place + zero = omega arith in
        subst (λ (n : ℕ). said n w v ≡ []) same (no_first (said place w v) (pairs_from said (place + 1) ys zs) e)
    pair_at (suc k) place (w ∷ ys) (v ∷ zs) y z e lt lt' =
        let same : place + 1 + k ≡ place + suc k = omega arith in
        subst (λ (n : ℕ). said n (get_or ys k y) (get_or zs k z) ≡ []) same
        (pair_at k (place + 1) ys zs y z (no_second (said place w v) (pairs_from said (place + 1) ys zs) e) (omega arith) (omega arith))

    -- nor of any
    no_pairs : (place : ℕ) (ys : List Y) (zs : List Z) → EachPair (λ k y z. said (place + k) y z ≡ []) ys zs → pairs_from said place ys zs ≡ []
    no_pairs place [] zs each = refl
    no_pairs place (y ∷ ys) [] each = refl
    no_pairs place (y ∷ ys) (z ∷ zs) each =
        let same : place + zero ≡ place = omega arith in
        neither (said place y z) (pairs_from said (place + 1) ys zs) (subst (λ (n : ℕ). said n y z ≡ []) same (each zero y z (omega arith) (omega arith)))
        (no_pairs (place + 1) ys zs (λ k y' z' lt lt'.
        let same' : place + suc k ≡ place + 1 + k = omega arith in
        subst (λ (n : ℕ). said n (get_or ys k y') (get_or zs k z') ≡ []) same' (each (suc k) y' z' (omega arith) (omega arith))))

    -- the place counts from the first
    from_zero : (k : ℕ) → 0 + k ≡ k
    from_zero k = omega arith

    -- of no pair is anything said
    pub of_no_pair : (ys : List Y) (zs : List Z) → (of_pairs said ys zs ≡ []) ↔ EachPair (λ k y z. said k y z ≡ []) ys zs
    of_no_pair ys zs = (
      λ e k y z lt lt'. subst (λ (n : ℕ). said n (get_or ys k y) (get_or zs k z) ≡ []) (from_zero k) (pair_at k 0 ys zs y z e lt lt'),
      λ each. no_pairs 0 ys zs (λ k y z lt lt'. subst (λ (n : ℕ). said n (get_or ys k y) (get_or zs k z) ≡ []) (sym (from_zero k)) (each k y z lt lt')),
    )

  -- the places below a number more
  places_more : (g : ℕ → List X) (n : ℕ) → flat_map g (list_of (λ i. i) (suc n)) ≡ flat_map g (list_of (λ i. i) n) ++ g n
  unfolding list_of
  places_more g n = flat_map-append g (list_of (λ i. i) n) (n ∷ []) ∙ ap (λ (l : List X). flat_map g (list_of (λ i. i) n) ++ l) (append-nil (g n))

  -- nothing is said of a place
  pub place_at : (g : ℕ → List X) (n k : ℕ) → flat_map g (list_of (λ i. i) n) ≡ [] → k < n → g k ≡ []
  place_at g zero k e lt = absurd (omega arith)
  place_at g (suc n) k e lt =
      let both = sym (places_more g n) ∙ e in
      elim (last_or k n lt) [
        | inl below ↦ place_at g n k (no_first (flat_map g (list_of (λ i. i) n)) (g n) both) below
        | inr same ↦ subst (λ (j : ℕ). g j ≡ []) same (no_second (flat_map g (list_of (λ i. i) n)) (g n) both)
      ]

  -- nor of any
  pub no_places : (g : ℕ → List X) (n : ℕ) → ((k : ℕ) → k < n → g k ≡ []) → flat_map g (list_of (λ i. i) n) ≡ []
  unfolding list_of
  no_places g zero each = refl
  no_places g (suc n) each = places_more g n ∙ neither (flat_map g (list_of (λ i. i) n)) (g n) (no_places g n (λ k lt. each k (omega arith))) (each n (omega arith))
