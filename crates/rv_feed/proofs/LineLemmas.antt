-- The lines of the lanes' next turns, at the indexes of their CPUs.
use Rattle.std.proofs.Common.{◌≡◌, ◌≢◌, ℕ, ◌+◌, ◌^◌, ◌<◌, ◌≤◌, List, ◌⊎◌, length, map, inl, inr, arith, refl, sym, ap, ◌∙◌, subst, get_or, get_or-set_same, get_or-set_other, set, length-set, All}
use Rattle.std.specs.Prelude.{AllPairs, slice_index}
use Rattle.std.proofs.lemmas.List.{get_or_default}
use Rattle.rv_model.specs.declared.work.Turn.{Turn}
use Rattle.rv_model.specs.Works.{Work}
use Rattle.rv_feed.specs.declared.order.NextTurn.{NextTurn}
use Rattle.rv_feed.specs.Lane.{LaneValue}
use Rattle.rv_feed.specs.inner.SoFar.{next_turn_of, IsPending, next_line, HasLine, HasLines, IsLeast}
use Rattle.rv_feed.proofs.LaneLemmas.{same_or_not, same-lane}

-- a line stays while the lane's place does
line-stays : (places places' : List ℕ) (m : LaneValue) (line : ℕ) → next_turn_of places' m ≡ next_turn_of places m → HasLine places m line → HasLine places' m line
line-stays places places' m line same has = record {
  line_is = λ pend. has.line_is (subst (λ (n : ℕ). n < length m.work.turns) same pend) ∙ ap (slice_index (map (λ (t : Turn). t.line) m.work.turns)) (sym same);
  range = λ pend. has.range (subst (λ (n : ℕ). n < length m.work.turns) same pend);
  few = has.few;
  pending = λ lt. subst (λ (n : ℕ). n < length m.work.turns) (sym same) (has.pending lt);
}

-- the lanes before the place have theirs
abbrev pub HasLinesTo : List ℕ → List ℕ → List LaneValue → ℕ → Type 0
HasLinesTo places lines lanes n = (k : ℕ) (d : LaneValue) → k < n → k < length lanes → HasLine places (get_or lanes k d) (slice_index lines (get_or lanes k d).work.cpu)

module _ (lines : List ℕ) (lanes : List LaneValue) (apart : AllPairs (λ l m. l.work.cpu ≢ m.work.cpu) lanes) (k : ℕ) (d : LaneValue) (lt : k < length lanes) (fits : (get_or lanes k d).work.cpu < length lines) where
  -- another lane's CPU is another
  other-cpu : (j : ℕ) (c : LaneValue) → j < length lanes → j ≢ k → (get_or lanes j c).work.cpu ≢ (get_or lanes k d).work.cpu
  other-cpu j c lj n = λ e. n (same-lane lanes apart j k d lj lt (ap (λ (x : LaneValue). x.work.cpu) (get_or_default lanes j d c lj) ∙ e))

  -- its line stays
  other-line : (j : ℕ) (c : LaneValue) (line : ℕ) → j < length lanes → j ≢ k → slice_index (set lines (get_or lanes k d).work.cpu line) (get_or lanes j c).work.cpu ≡ slice_index lines (get_or lanes j c).work.cpu
  other-line j c line lj n = get_or-set_other lines (get_or lanes k d).work.cpu (get_or lanes j c).work.cpu line 0 (other-cpu j c lj n)

  -- one lane more
  pub lines-more : (places : List ℕ) (line : ℕ) → HasLinesTo places lines lanes k → HasLine places (get_or lanes k d) line → HasLinesTo places (set lines (get_or lanes k d).work.cpu line) lanes (k + 1)
  lines-more places line before mine j c le lj = elim (same_or_not j k) [
    | inl same ↦
        let here : get_or lanes j c ≡ get_or lanes k d = ap (λ (n : ℕ). get_or lanes n c) same ∙ get_or_default lanes k c d lt in
        subst (λ (m : LaneValue). HasLine places m (slice_index (set lines (get_or lanes k d).work.cpu line) m.work.cpu)) (sym here) (rw get_or-set_same mine)
    | inr n ↦ rw (other-line j c line lj n) (before j c (grind arith) lj)
  ]

  module _ (places : List ℕ) (lane' : LaneValue) (place' line : ℕ) where
    abbrev places' : List ℕ
    places' = set places (get_or lanes k d).work.cpu place'

    abbrev lines' : List ℕ
    lines' = set lines (get_or lanes k d).work.cpu line

    -- a lane that was played
    pub lines-played : lane'.work ≡ (get_or lanes k d).work → HasLines places lines lanes → HasLine places' lane' line → HasLines places' lines' (set lanes k lane')
    lines-played work_is before mine j c lj = elim (same_or_not j k) [
      | inl same ↦
          let here : get_or (set lanes k lane') j c ≡ lane' = ap (λ (n : ℕ). get_or (set lanes k lane') n c) same ∙ rw get_or-set_same refl in
          let cpu : (get_or lanes k d).work.cpu ≡ lane'.work.cpu = ap (λ (w : Work). w.cpu) (sym work_is) in
          subst (λ (m : LaneValue). HasLine places' m (slice_index lines' m.work.cpu)) (sym here) (subst (λ (n : ℕ). HasLine places' lane' (slice_index lines' n)) cpu (rw get_or-set_same mine))
      | inr n ↦
          let in_lanes : j < length lanes = rw (← length-set lanes k lane') lj in
          let there : get_or (set lanes k lane') j c ≡ get_or lanes j c = rw get_or-set_other refl in
          let place_is : next_turn_of places' (get_or lanes j c) ≡ next_turn_of places (get_or lanes j c) = get_or-set_other places (get_or lanes k d).work.cpu (get_or lanes j c).work.cpu place' 0 (other-cpu j c in_lanes n) in
          subst (λ (m : LaneValue). HasLine places' m (slice_index lines' m.work.cpu)) (sym there)
          (rw (other-line j c line in_lanes n) (line-stays places places' (get_or lanes j c) (slice_index lines (get_or lanes j c).work.cpu) place_is (before j c in_lanes)))
    ]

-- ---- the least line

-- no lane before the place has a smaller line
pub record IsBest (places : List ℕ) (lanes : List LaneValue) (best line count : ℕ) : Type 0 where
  pub least : (j : ℕ) (d : LaneValue) → j < count → j < length lanes → IsPending places (get_or lanes j d) → (line ≤ next_line places (get_or lanes j d)) × (next_line places (get_or lanes j d) < 2 ^ 32)
  pub found : (line ≡ 2 ^ 32) ⊎ ((best < count) × (best < length lanes) × ((d : LaneValue) → IsPending places (get_or lanes best d) × (next_line places (get_or lanes best d) ≡ line)))

-- the next line of a lane is the least, where no next turn has a line below it
pub least-from : (places lines : List ℕ) (lanes : List LaneValue) (next : NextTurn) → HasLines places lines lanes → All (λ l. IsPending places l → next.line ≤ next_line places l) lanes → next.line ≤ 2 ^ 32
    → next.lane < length lanes → ((d : LaneValue) → slice_index lines (get_or lanes next.lane d).work.cpu ≡ next.line) → IsLeast places lanes next
least-from places lines lanes next has later few inside at = record {
  least = λ k d lt pending. let h = has k d lt in let is = h.line_is pending in let range = h.range pending in (later k d lt pending, omega arith);
  found = go (below next.line few);
}
  where
    below : (n : ℕ) → n ≤ 2 ^ 32 → (n ≡ 2 ^ 32) ⊎ (n < 2 ^ 32)
    below n le = grind arith

    go : (next.line ≡ 2 ^ 32) ⊎ (next.line < 2 ^ 32) → (next.line ≡ 2 ^ 32) ⊎ ((next.lane < length lanes) × ((d : LaneValue) → IsPending places (get_or lanes next.lane d) × (next_line places (get_or lanes next.lane d) ≡ next.line)))
    go (inl none) = inl none
    go (inr some) =
        inr (
          inside,
          λ d.
              let h = has next.lane d inside in
              let pending : IsPending places (get_or lanes next.lane d) = h.pending (let is = at d in omega arith) in
              (pending, sym (h.line_is pending) ∙ at d),
        )
