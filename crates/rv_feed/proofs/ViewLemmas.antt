-- Lanes of any kind, and what contracts see of them.
use Rattle.std.proofs.Common.{◌≡◌, ℕ, ◌+◌, ◌^◌, ◌<◌, ◌≤◌, Bool, List, length, map, inl, inr, arith, sym, ap, ◌∙◌, subst, get_or, All}
use Rattle.std.specs.Prelude.{slice_index}
use Rattle.std.proofs.lemmas.List.{length-map, get_or-map, get_or_default}
use Rattle.rv_model.specs.declared.work.Turn.{Turn}
use Rattle.rv_model.specs.Setups.{Setup}
use Rattle.rv_core.specs.Core.{CoreValue}
use Rattle.rv_core.specs.Deliveries.{FitsDelivery}
use Rattle.rv_feed.specs.declared.order.NextTurn.{NextTurn}
use Rattle.rv_feed.specs.Lane.{LaneValue}
use Rattle.rv_feed.specs.inner.SoFar.{next_turn_of, IsPending, HasLines, IsLeast, LaneSoFar, RunSoFar}
use Rattle.rv_feed.proofs.LaneLemmas.{same_or_not}
use Rattle.rv_feed.proofs.LineLemmas.{IsBest}
use Rattle.rv_feed.proofs.RunLemmas.{is-next}

module _ {L : Type 0} (view : L → LaneValue) (lanes : List L) where
  -- a lane of the list is one of those that are seen
  pub view-inside : (k : ℕ) → k < length lanes → k < length (map view lanes)
  view-inside k lt = let n = length-map lanes view in omega arith

  -- and the other way round
  pub lane-inside : (k : ℕ) → k < length (map view lanes) → k < length lanes
  lane-inside k lt = let n = length-map lanes view in omega arith

  -- the lane that was found at the place is seen there
  pub view-at : (k : ℕ) (x : L) (d : LaneValue) → k < length lanes → x ≡ get_or lanes k x → view x ≡ get_or (map view lanes) k d
  view-at k x d lt is = ap view is ∙ sym (get_or-map view lanes k x d lt)

  -- what holds of each lane holds of what is seen
  pub view-holds : (P : LaneValue → Type 0) → All (λ x. P (view x)) lanes → (k : ℕ) (x : L) (d : LaneValue) → k < length lanes → P (get_or (map view lanes) k d)
  view-holds P all k x d lt = subst P (sym (get_or-map view lanes k x d lt)) (all k x lt)

  -- what holds of all that is seen holds of each lane
  pub seen-holds : (P : LaneValue → Type 0) → All P (map view lanes) → All (λ x. P (view x)) lanes
  seen-holds P all k x lt = subst P (get_or-map view lanes k x (view x) lt) (all k (view x) (view-inside k lt))

  -- the least next turn is a lane's
  pub next-inside : {places : List ℕ} (next : NextTurn) → IsLeast places (map view lanes) next → (next.line ≡ 2 ^ 32 → ⊥) → next.lane < length lanes
  next-inside next least some = elim least.found [
    | inl none ↦ absurd (some none)
    | inr found ↦ lane-inside next.lane found.0
  ]

  -- the lane that is played next, whose value is `l`
  pub record PlaysLane (cur : CoreValue) (places : List ℕ) (next : NextTurn) (l : LaneValue) : Type 0 where
    pub inside : next.lane < length lanes
    pub cpu : l.work.cpu < 64
    pub place : next_turn_of places l < length l.work.turns
    pub fit : All (FitsDelivery cur.setup) l.work.deliveries
    pub kept : (t : Turn) → length l.records ≤ (get_or l.work.turns (next_turn_of places l) t).from
    pub room : length l.work.deliveries ≤ l.room
    pub few : next.line < 2 ^ 32

  -- between two turns there is one, or no lane has a next turn
  pub plays-lane : {panics : ℕ → Bool} {old cur : CoreValue} {first : List LaneValue} {places : List ℕ} {from : ℕ} (next : NextTurn) (x : L) → RunSoFar panics old cur first (map view lanes) places from → IsLeast places (map view lanes) next → (next.line ≡ 2 ^ 32 → ⊥)
      → PlaysLane cur places next (view (get_or lanes next.lane x))
  plays-lane {panics} {old} {cur} {first} {places} {from} next x run least some =
      let n = is-next places (map view lanes) next (view x) least some in
      let inside = lane-inside next.lane n.below in
      let l : LaneValue = view (get_or lanes next.lane x) in
      let here : get_or (map view lanes) next.lane (view x) ≡ l = get_or-map view lanes next.lane x (view x) inside in
      let pending : IsPending places l = subst (IsPending places) here n.pending in
      let it : LaneSoFar old.setup panics old.history run.more places from l = subst (LaneSoFar old.setup panics old.history run.more places from) here (run.lanes_are next.lane (view x) n.below) in
      record {
        inside = inside;
        cpu = it.cpu;
        place = pending;
        fit = subst (λ (s : Setup). All (FitsDelivery s) l.work.deliveries) (sym (ap (λ (v : CoreValue). v.setup) run.grows)) it.fit;
        kept = λ t. elim it.state [
          | inl g ↦ g.kept t pending
          | inr e ↦ absurd (let all = e.all in omega arith)
        ];
        room = it.room;
        few = n.fits;
      }

module _ (places lines : List ℕ) (lanes : List LaneValue) (has : HasLines places lines lanes) where
  -- one lane more, whose next line is smaller
  pub best-less : (best line k : ℕ) (d : LaneValue) (line' : ℕ) → k < length lanes → line' ≡ slice_index lines (get_or lanes k d).work.cpu → line' < line → line ≤ 2 ^ 32 → IsBest places lanes best line k → IsBest places lanes k line' (k + 1)
  best-less best line k d line' lt is less few was = record {
    least = λ j e lj inside pend. elim (same_or_not j k) [
      | inl same ↦
          let h = has j e inside in
          let l = h.line_is pend in
          let r = h.range pend in
          let here : get_or lanes j e ≡ get_or lanes k d = ap (λ (n : ℕ). get_or lanes n e) same ∙ get_or_default lanes k e d lt in
          let eq : slice_index lines (get_or lanes j e).work.cpu ≡ line' = ap (λ (m : LaneValue). slice_index lines m.work.cpu) here ∙ sym is in
          (omega arith, omega arith)
      | inr n ↦ let w = was.least j e (grind arith) inside pend in let w0 = w.0 in let w1 = w.1 in (omega arith, omega arith)
    ];
    found = inr (
      omega arith,
      lt,
      λ e.
          let h = has k e lt in
          let here : get_or lanes k e ≡ get_or lanes k d = get_or_default lanes k e d lt in
          let eq : slice_index lines (get_or lanes k e).work.cpu ≡ line' = ap (λ (m : LaneValue). slice_index lines m.work.cpu) here ∙ sym is in
          let pend = h.pending (omega arith) in
          (pend, sym (h.line_is pend) ∙ eq),
    );
  }

  -- one lane more, whose next line is not
  pub best-stays : (best line k : ℕ) (d : LaneValue) (line' : ℕ) → k < length lanes → line' ≡ slice_index lines (get_or lanes k d).work.cpu → line ≤ line' → IsBest places lanes best line k → IsBest places lanes best line (k + 1)
  best-stays best line k d line' lt is more was = record {
    least = λ j e lj inside pend. elim (same_or_not j k) [
      | inl same ↦
          let h = has j e inside in
          let l = h.line_is pend in
          let r = h.range pend in
          let here : get_or lanes j e ≡ get_or lanes k d = ap (λ (n : ℕ). get_or lanes n e) same ∙ get_or_default lanes k e d lt in
          let eq : slice_index lines (get_or lanes j e).work.cpu ≡ line' = ap (λ (m : LaneValue). slice_index lines m.work.cpu) here ∙ sym is in
          (omega arith, omega arith)
      | inr n ↦ was.least j e (grind arith) inside pend
    ];
    found = elim was.found [
      | inl none ↦ inl none
      | inr some ↦ inr (let a = some.0 in omega arith, some.1, some.2)
    ];
  }

-- the best of all lanes is the least
pub best-least : (places : List ℕ) (lanes : List LaneValue) (next : NextTurn) (k : ℕ) → length lanes ≤ k → IsBest places lanes next.lane next.line k → IsLeast places lanes next
best-least places lanes next k end is = record {
  least = λ j d lt pend. is.least j d (omega arith) lt pend;
  found = elim is.found [
    | inl none ↦ inl none
    | inr some ↦ inr (some.1, some.2)
  ];
}
