-- Until all is placed, some lane's next step may be placed.
use Rattle.std.proofs.Common.{◌≡◌, ℕ, ◌<◌, true, false, List, [], ◌∷◌, ◌++◌, inl, inr, refl, sym, ap, ◌∙◌, subst, arith}
use Rattle.std.specs.Prelude.{filter}
use Rattle.std.proofs.lemmas.Bool.Decides.{nat_tests}
use Rattle.std.proofs.lemmas.List.{map-append}
use Rattle.std.proofs.lemmas.List.Elements.{filter-append}
use Rattle.rv_model.specs.declared.entry.Entry.{Entry}
use Rattle.rv_model.specs.Setups.{Setup}
use Rattle.rv_journal.specs.declared.counted.Counted.{Counted}
use Rattle.rv_journal.specs.declared.steps.MergeStep.{MergeStep}
use Rattle.rv_journal.specs.declared.steps.MergeStep.TheVariants.{TurnLook, Item}
use Rattle.rv_journal.specs.MergeSteps.{items_of}
use Rattle.rv_journal.specs.inner.MergeSteps.{MayPlace, CannotGo}
use Rattle.rv_journal.specs.inner.MergeStates.{Mark, mark, items_in, is_left, AreKnownItems, Lanes, IsUnderWay}
use Rattle.rv_journal.proofs.MarkLemmas.{filter_yes, AllPlaced, FirstOpen, all-or_first, placed-none}
use Rattle.rv_journal.proofs.FirstOpenLemmas.{version-le, version-ge}
use Rattle.rv_journal.proofs.IntervalLemmas.{leaving-none, losing-none}

module _ (s : Setup) (whole : List Counted) (lanes : Lanes) (observed : AreKnownItems s whole)
    (owned : (before : List Counted) (c : Counted) (after : List Counted) → whole ≡ before ++ c ∷ after → (l : ℕ) × (l < lanes.many) × (c.entry.seat ≡ lanes.seat l))
    (history : List Entry) (rest : ℕ → List MergeStep) (u : IsUnderWay s whole lanes history rest)
    (stuck : (l : ℕ) → l < lanes.many → CannotGo lanes.many history rest (rest l)) where
  -- a lane that is left no item is at its end
  ended : (l : ℕ) → l < lanes.many → items_of (rest l) ≡ [] → rest l ≡ []
  ended l lt none = by (rest l) refl
    where
      by : (steps : List MergeStep) → rest l ≡ steps → rest l ≡ []
      by [] is = is
      by (TurnLook ∷ steps) is = absurd ((subst (CannotGo lanes.many history rest) is (stuck l lt)) tt)
      by (Item c ∷ steps) is = absurd (let no : c ∷ items_of steps ≡ [] = sym (ap items_of is) ∙ none in cc)

  module _ (f : FirstOpen u.marks) where
    -- the lane of the first item that is not placed
    lane : (l : ℕ) × (l < lanes.many) × (f.item.entry.seat ≡ lanes.seat l)
    lane = owned (items_in f.front) f.item (items_in f.back) (sym u.marks_are ∙ (ap items_in f.is ∙ map-append (λ (x : Mark). x.item) f.front (mark false f.item ∷ f.back)))

    -- it is that lane's next
    items-are : items_of (rest lane.0) ≡ f.item ∷ items_in (filter (is_left (lanes.seat lane.0)) f.back)
    items-are =
        let n : ℕ = lanes.seat lane.0 in
        let seat_is : f.item.entry.seat ≡ n = lane.2 in
        let in' : is_left n (mark false f.item) ≡ true = grind (arith, nat_tests) in
        u.left lane.0 lane.1 ∙ ap items_in (ap (filter (is_left n)) f.is ∙ (filter-append (is_left n) f.front (mark false f.item ∷ f.back)
        ∙ (ap (λ (z : List Mark). z ++ filter (is_left n) (mark false f.item ∷ f.back)) (placed-none n f.front f.placed) ∙ filter_yes (is_left n) (mark false f.item) f.back in')))

    -- it may be placed where it is the lane's next step
    may : (steps : List MergeStep) → rest lane.0 ≡ Item f.item ∷ steps → MayPlace lanes.many history rest (Item f.item)
    may steps at = (
      (let le = version-le s whole lanes observed history rest u f in let ge = version-ge s whole lanes observed history rest u f lane.0 lane.1 steps at in omega arith),
      λ differs l lt. (let a = leaving-none s whole lanes observed history rest u stuck f differs l lt in let b = losing-none s whole lanes observed history rest u stuck f differs l lt in omega arith),
    )

    -- so the first that is not placed could go
    not-stuck : ⊥
    not-stuck = by (rest lane.0) refl
      where
        by : (steps : List MergeStep) → rest lane.0 ≡ steps → ⊥
        by [] is = let no : [] ≡ f.item ∷ items_in (filter (is_left (lanes.seat lane.0)) f.back) = sym (ap items_of is) ∙ items-are in cc
        by (TurnLook ∷ steps) is = (subst (CannotGo lanes.many history rest) is (stuck lane.0 lane.1)) tt
        by (Item x ∷ steps) is =
            let both : x ∷ items_of steps ≡ f.item ∷ items_in (filter (is_left (lanes.seat lane.0)) f.back) = sym (ap items_of is) ∙ items-are in
            let it : x ≡ f.item = cc in
            let at : rest lane.0 ≡ Item f.item ∷ steps = is ∙ ap (λ (z : Counted). Item z ∷ steps) it in
            (subst (CannotGo lanes.many history rest) at (stuck lane.0 lane.1)) (may steps at)

  -- where no lane can go on, all are at their ends
  pub all-ended : (l : ℕ) → l < lanes.many → rest l ≡ []
  all-ended l lt = elim (all-or_first u.marks) [
    | inl all ↦ ended l lt (u.left l lt ∙ ap items_in (placed-none (lanes.seat l) u.marks all))
    | inr f ↦ absurd (not-stuck f)
  ]

  -- and all items are placed
  pub all-placed : AllPlaced u.marks
  all-placed = elim (all-or_first u.marks) [ inl all ↦ all | inr f ↦ absurd (not-stuck f) ]
