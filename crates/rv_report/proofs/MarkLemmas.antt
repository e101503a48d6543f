-- The marks of other tallies, one place after the other.
use Rattle.std.proofs.Common.{◌≡◌, ◌≢◌, ℕ, ◌+◌, ◌<◌, ◌≤◌, ◌||◌, ◌==◌, Bool, true, false, List, ◌⊎◌, inl, inr, length, get_or, arith, refl, sym, ap, ◌∙◌, subst}
use Rattle.std.proofs.lemmas.List.{get_or_past}
use Rattle.rv_report.proofs.TallyLemmas.{apart}

-- the places before this one have the marks of both, and the others are as they were
pub record MarkedSoFar (others old cur : List Bool) (place : ℕ) : Type 0 where
  pub many : length cur ≡ length old
  pub done : (k : ℕ) → k < place → k < length old → get_or cur k false ≡ (get_or old k false || get_or others k false)
  pub left : (k : ℕ) → place ≤ k → get_or cur k false ≡ get_or old k false

-- none yet
pub marked-none : (others old : List Bool) → MarkedSoFar others old old 0
marked-none others old = record { many = refl; done = λ k lt inside. absurd (omega arith); left = λ k le. refl }

-- no mark more
or-false : (b : Bool) → (b || false) ≡ b
or-false true = refl
or-false false = refl

-- a mark more
or-true : (b : Bool) → (b || true) ≡ true
or-true true = refl
or-true false = refl

-- before the next place, or the place
before_or_at : (k place : ℕ) → k < place + 1 → (k < place) ⊎ (k ≡ place)
before_or_at k place lt = grind arith

-- inside or past the end
inside_or_past : (k n : ℕ) → (k < n) ⊎ (n ≤ k)
inside_or_past k n = grind arith

module _ (others old cur : List Bool) (place : ℕ) (so_far : MarkedSoFar others old cur place) where
  -- a place that the others mark
  pub marked-yes : (new : List Bool) → get_or others place false ≡ true → length new ≡ length cur → ((k : ℕ) → k < length cur → get_or new k false ≡ (get_or cur k false || (place == k))) → MarkedSoFar others old new (place + 1)
  marked-yes new marks long marked = record {
    many = long ∙ so_far.many;
    done = λ k lt inside. elim (before_or_at k place lt) [
      | inl before ↦ kept k (λ e. absurd (omega arith)) ∙ so_far.done k before inside
      | inr e ↦
          let now : get_or new place false ≡ true = marked place (let m = so_far.many in omega arith) ∙ ap (λ (b : Bool). get_or cur place false || b) (grind arith) ∙ or-true (get_or cur place false) in
          let both : (get_or old place false || get_or others place false) ≡ true = ap (λ (b : Bool). get_or old place false || b) marks ∙ or-true (get_or old place false) in
          subst (λ (j : ℕ). get_or new j false ≡ (get_or old j false || get_or others j false)) (sym e) (now ∙ sym both)
    ];
    left = λ k le. kept k (λ e. absurd (omega arith)) ∙ so_far.left k (omega arith);
  }
    where
      kept : (k : ℕ) → place ≢ k → get_or new k false ≡ get_or cur k false
      kept k other = elim (inside_or_past k (length cur)) [
        | inl inside ↦ marked k inside ∙ ap (λ (b : Bool). get_or cur k false || b) (apart place k other) ∙ or-false (get_or cur k false)
        | inr past ↦ get_or_past new k false (omega arith) ∙ sym (get_or_past cur k false past)
      ]

  -- a place that the others do not mark
  pub marked-no : get_or others place false ≡ false → MarkedSoFar others old cur (place + 1)
  marked-no leaves = record {
    many = so_far.many;
    done = λ k lt inside. elim (before_or_at k place lt) [
      | inl before ↦ so_far.done k before inside
      | inr e ↦
          let same : get_or old place false ≡ (get_or old place false || get_or others place false) = sym (ap (λ (b : Bool). get_or old place false || b) leaves ∙ or-false (get_or old place false)) in
          subst (λ (j : ℕ). get_or cur j false ≡ (get_or old j false || get_or others j false)) (sym e) (so_far.left place (omega arith) ∙ same)
    ];
    left = λ k le. so_far.left k (omega arith);
  }

  -- all of them
  pub marked-all : length others ≤ place → (k : ℕ) → k < length old → get_or cur k false ≡ (get_or old k false || get_or others k false)
  marked-all all k inside = elim (inside_or_past k place) [
    | inl before ↦ so_far.done k before inside
    | inr past ↦ so_far.left k past ∙ sym (ap (λ (b : Bool). get_or old k false || b) (get_or_past others k false (omega arith)) ∙ or-false (get_or old k false))
  ]
