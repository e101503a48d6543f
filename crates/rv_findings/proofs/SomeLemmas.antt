-- What is so of some item of a list: of lists one after another, of pairs, and of places.
use Rattle.std.proofs.Common.{◌≡◌, ℕ, zero, suc, ◌+◌, ◌<◌, List, [], ◌∷◌, ◌++◌, ◌⊎◌, inl, inr, length, get_or, flat_map, refl, sym, ap, ◌∙◌, subst, arith}
use Rattle.std.specs.Prelude.{Any, ◌↔◌}
use Rattle.std.proofs.lemmas.List.Elements.{Contains-append_cases, Contains-append_left, Contains-append_right}
use Rattle.std.proofs.lemmas.List.{append-nil}
use Rattle.std.proofs.lemmas.List.Concat.{flat_map-append}
use Rattle.rv_model.specs.Numbers.{list_of}
use Rattle.rv_facts.specs.Pairs.{pairs_from, of_pairs}
use Rattle.rv_findings.specs.Zeros.{SomePair}

-- a place is below, or the last
pub last_or : (k n : ℕ) → k < suc n → (k < n) ⊎ (n ≡ k)
last_or k n lt = grind arith

-- one after another
pub chain : {A B C : Type 0} → A ↔ B → B ↔ C → A ↔ C
chain ab bc = (λ a. bc.0 (ab.0 a), λ c. ab.1 (bc.1 c))

module _ {X : Type 0} (P : X → Type 0) where
  -- of no item
  pub none : Any P [] → ⊥
  none a = let lt = a.2 in omega arith

  -- of one item
  pub one : (x : X) → Any P (x ∷ []) → P x
  one x a = from a.0 a.1 a.2 a.3 a.4
    where
      from : (k : ℕ) (y : X) → k < length (x ∷ []) → get_or (x ∷ []) k y ≡ y → P y → P x
      from zero y lt is holds = subst P (sym is) holds
      from (suc k) y lt is holds = absurd (omega arith)

  -- and back
  pub this_one : (x : X) → P x → Any P (x ∷ [])
  this_one x holds = (0, x, omega arith, refl, holds)

  -- of two lists
  pub some_of : (xs ys : List X) → Any P (xs ++ ys) → Any P xs ⊎ Any P ys
  some_of xs ys a = elim (Contains-append_cases xs ys a.1 (a.0, a.2, a.3)) [
    | inl c ↦ inl (c.0, a.1, c.1, c.2, a.4)
    | inr c ↦ inr (c.0, a.1, c.1, c.2, a.4)
  ]

  -- of the first
  pub in_front : (xs ys : List X) → Any P xs → Any P (xs ++ ys)
  in_front xs ys a = let c = Contains-append_left xs ys a.1 (a.0, a.2, a.3) in (c.0, a.1, c.1, c.2, a.4)

  -- of the second
  pub behind : (xs ys : List X) → Any P ys → Any P (xs ++ ys)
  behind xs ys a = let c = Contains-append_right xs ys a.1 (a.0, a.2, a.3) in (c.0, a.1, c.1, c.2, a.4)

  -- where it is so of none of the second
  pub left : (xs ys : List X) → (Any P ys → ⊥) → Any P (xs ++ ys) ↔ Any P xs
  left xs ys not_back = (λ a. elim (some_of xs ys a) [ inl c ↦ c | inr c ↦ absurd (not_back c) ], in_front xs ys)

  -- where it is so of none of the first
  pub right : (xs ys : List X) → (Any P xs → ⊥) → Any P (xs ++ ys) ↔ Any P ys
  right xs ys not_front = (λ a. elim (some_of xs ys a) [ inl c ↦ absurd (not_front c) | inr c ↦ c ], behind xs ys)

  -- of neither
  pub neither : (xs ys : List X) → (Any P xs → ⊥) → (Any P ys → ⊥) → Any P (xs ++ ys) → ⊥
  neither xs ys not_front not_back a = elim (some_of xs ys a) [ inl c ↦ not_front c | inr c ↦ not_back c ]

  module _ {Y Z : Type 0} (said : ℕ → Y → Z → List X) where
    -- it is so of what is said of the pair at a place
    pair_at : (k place : ℕ) (ys : List Y) (zs : List Z) → k < length ys → k < length zs → ((y : Y) (z : Z) → Any P (said (place + k) (get_or ys k y) (get_or zs k z))) → Any P (pairs_from said place ys zs)
    pair_at k place [] zs lt lt' a = absurd (omega arith)
    pair_at k place (y ∷ ys) [] lt lt' a = absurd (omega arith)
    pair_at zero place (y ∷ ys) (z ∷ zs) lt lt' a =
        let same : place + zero ≡ place = omega arith in
        in_front (said place y z) (pairs_from said (place + 1) ys zs) (subst (λ (n : ℕ). Any P (said n y z)) same (a y z))
    pair_at (suc k) place (y ∷ ys) (z ∷ zs) lt lt' a =
        let same : place + suc k ≡ place + 1 + k = omega arith in
        behind (said place y z) (pairs_from said (place + 1) ys zs)
        (pair_at k (place + 1) ys zs (omega arith) (omega arith) (λ y' z'. subst (λ (n : ℕ). Any P (said n (get_or ys k y') (get_or zs k z'))) same (a y' z')))

    -- so it is of one that is found
    at_pair : (place : ℕ) (ys : List Y) (zs : List Z) → Any P (pairs_from said place ys zs) → SomePair (λ k y z. Any P (said (place + k) y z)) ys zs
    at_pair place [] zs a = absurd (none a)
    at_pair place (y ∷ ys) [] a = absurd (none a)
    at_pair place (y ∷ ys) (z ∷ zs) a = elim (some_of (said place y z) (pairs_from said (place + 1) ys zs) a) [
      | inl c ↦
          let same : place ≡ place + zero = omega arith in
          (zero, omega arith, omega arith, λ y' z'. subst (λ (n : ℕ). Any P (said n y z)) same c)
      | inr c ↦
          let later = at_pair (place + 1) ys zs c in
          let same : place + 1 + later.0 ≡ place + suc later.0 = omega arith in
          (suc later.0, let lt = later.1 in omega arith, let lt = later.2 in omega arith, λ y' z'. subst (λ (n : ℕ). Any P (said n (get_or ys later.0 y') (get_or zs later.0 z'))) same (later.3 y' z'))
    ]

    -- of some pair
    pub some_pair : (ys : List Y) (zs : List Z) → Any P (of_pairs said ys zs) ↔ SomePair (λ k y z. Any P (said k y z)) ys zs
    some_pair ys zs = (λ a. from_start (at_pair 0 ys zs a), λ p. pair_at p.0 0 ys zs p.1 p.2 (λ y z. subst (λ (n : ℕ). Any P (said n (get_or ys p.0 y) (get_or zs p.0 z))) (from_zero p.0) (p.3 y z)))
      where
        from_zero : (k : ℕ) → k ≡ 0 + k
        from_zero k = omega arith

        from_start : SomePair (λ k y z. Any P (said (0 + k) y z)) ys zs → SomePair (λ k y z. Any P (said k y z)) ys zs
        from_start p = (p.0, p.1, p.2, λ y z. subst (λ (n : ℕ). Any P (said n (get_or ys p.0 y) (get_or zs p.0 z))) (sym (from_zero p.0)) (p.3 y z))

    -- of no pair, where it is so of nothing that is said
    pub no_pair : ((k : ℕ) (y : Y) (z : Z) → Any P (said k y z) → ⊥) → (place : ℕ) (ys : List Y) (zs : List Z) → Any P (pairs_from said place ys zs) → ⊥
    no_pair never place [] zs a = none a
    no_pair never place (y ∷ ys) [] a = none a
    no_pair never place (y ∷ ys) (z ∷ zs) a = neither (said place y z) (pairs_from said (place + 1) ys zs) (never place y z) (no_pair never (place + 1) ys zs) a

  -- the places below a number more
  places_more : (g : ℕ → List X) (n : ℕ) → flat_map g (list_of (λ i. i) (suc n)) ≡ flat_map g (list_of (λ i. i) n) ++ g n
  unfolding list_of
  places_more g n = flat_map-append g (list_of (λ i. i) n) (n ∷ []) ∙ ap (λ (l : List X). flat_map g (list_of (λ i. i) n) ++ l) (append-nil (g n))

  -- of what is said of a place
  at_place : (g : ℕ → List X) (n : ℕ) → Any P (flat_map g (list_of (λ i. i) n)) → (k : ℕ) × (k < n) × Any P (g k)
  unfolding list_of
  at_place g zero a = absurd (none a)
  at_place g (suc n) a = elim (some_of (flat_map g (list_of (λ i. i) n)) (g n) (subst (Any P) (places_more g n) a)) [
    | inl c ↦ let before = at_place g n c in (before.0, let lt = before.1 in omega arith, before.2)
    | inr c ↦ (n, omega arith, c)
  ]

  -- and back
  place_at : (g : ℕ → List X) (n k : ℕ) → k < n → Any P (g k) → Any P (flat_map g (list_of (λ i. i) n))
  place_at g zero k lt a = absurd (omega arith)
  place_at g (suc n) k lt a = subst (Any P) (sym (places_more g n)) (elim (last_or k n lt) [
    | inl below ↦ in_front (flat_map g (list_of (λ i. i) n)) (g n) (place_at g n k below a)
    | inr same ↦ behind (flat_map g (list_of (λ i. i) n)) (g n) (subst (λ (j : ℕ). Any P (g j)) (sym same) a)
  ])

  -- of some place
  pub some_place : (g : ℕ → List X) (n : ℕ) → Any P (flat_map g (list_of (λ i. i) n)) ↔ ((k : ℕ) × (k < n) × Any P (g k))
  some_place g n = (at_place g n, λ p. place_at g n p.0 p.1 p.2)

-- of one of six lists, where it is so of none of the others
module _ {X : Type 0} (P : X → Type 0) (a b c d e f : List X) where
  pub first_of_six : (Any P b → ⊥) → (Any P c → ⊥) → (Any P d → ⊥) → (Any P e → ⊥) → (Any P f → ⊥) → Any P (a ++ (b ++ (c ++ (d ++ (e ++ f))))) ↔ Any P a
  first_of_six nb nc nd ne nf = left P a (b ++ (c ++ (d ++ (e ++ f)))) (neither P b (c ++ (d ++ (e ++ f))) nb (neither P c (d ++ (e ++ f)) nc (neither P d (e ++ f) nd (neither P e f ne nf))))

  pub second_of_six : (Any P a → ⊥) → (Any P c → ⊥) → (Any P d → ⊥) → (Any P e → ⊥) → (Any P f → ⊥) → Any P (a ++ (b ++ (c ++ (d ++ (e ++ f))))) ↔ Any P b
  second_of_six na nc nd ne nf =
      chain (right P a (b ++ (c ++ (d ++ (e ++ f)))) na) (left P b (c ++ (d ++ (e ++ f))) (neither P c (d ++ (e ++ f)) nc (neither P d (e ++ f) nd (neither P e f ne nf))))

  pub third_of_six : (Any P a → ⊥) → (Any P b → ⊥) → (Any P d → ⊥) → (Any P e → ⊥) → (Any P f → ⊥) → Any P (a ++ (b ++ (c ++ (d ++ (e ++ f))))) ↔ Any P c
  third_of_six na nb nd ne nf =
      chain (right P a (b ++ (c ++ (d ++ (e ++ f)))) na) (chain (right P b (c ++ (d ++ (e ++ f))) nb) (left P c (d ++ (e ++ f)) (neither P d (e ++ f) nd (neither P e f ne nf))))

  pub fourth_of_six : (Any P a → ⊥) → (Any P b → ⊥) → (Any P c → ⊥) → (Any P e → ⊥) → (Any P f → ⊥) → Any P (a ++ (b ++ (c ++ (d ++ (e ++ f))))) ↔ Any P d
  fourth_of_six na nb nc ne nf =
      chain (right P a (b ++ (c ++ (d ++ (e ++ f)))) na)
      (chain (right P b (c ++ (d ++ (e ++ f))) nb) (chain (right P c (d ++ (e ++ f)) nc) (left P d (e ++ f) (neither P e f ne nf))))

  pub fifth_of_six : (Any P a → ⊥) → (Any P b → ⊥) → (Any P c → ⊥) → (Any P d → ⊥) → (Any P f → ⊥) → Any P (a ++ (b ++ (c ++ (d ++ (e ++ f))))) ↔ Any P e
  fifth_of_six na nb nc nd nf =
      chain (right P a (b ++ (c ++ (d ++ (e ++ f)))) na)
      (chain (right P b (c ++ (d ++ (e ++ f))) nb) (chain (right P c (d ++ (e ++ f)) nc) (chain (right P d (e ++ f) nd) (left P e f nf))))

  pub last_of_six : (Any P a → ⊥) → (Any P b → ⊥) → (Any P c → ⊥) → (Any P d → ⊥) → (Any P e → ⊥) → Any P (a ++ (b ++ (c ++ (d ++ (e ++ f))))) ↔ Any P f
  last_of_six na nb nc nd ne =
      chain (right P a (b ++ (c ++ (d ++ (e ++ f)))) na)
      (chain (right P b (c ++ (d ++ (e ++ f))) nb) (chain (right P c (d ++ (e ++ f)) nc) (chain (right P d (e ++ f) nd) (right P e f ne))))

-- what is so of a pair may be said otherwise
pub pair_like : {Y Z : Type 0} (P Q : ℕ → Y → Z → Type 0) (ys : List Y) (zs : List Z) → ((k : ℕ) (y : Y) (z : Z) → P k y z ↔ Q k y z) → SomePair P ys zs ↔ SomePair Q ys zs
pair_like P Q ys zs like = (λ p. (p.0, p.1, p.2, λ y z. (like p.0 _ _).0 (p.3 y z)), λ p. (p.0, p.1, p.2, λ y z. (like p.0 _ _).1 (p.3 y z)))

-- what is so of a list is so of one that it is equal to
pub same : {X : Type 0} (P : X → Type 0) (xs ys : List X) → xs ≡ ys → Any P xs ↔ Any P ys
same P xs ys e = (subst (Any P) e, subst (Any P) (sym e))
