-- What is placed is of the lowest lane that may place its next entry.
use Rattle.std.proofs.Common.{◌≡◌, ◌≢◌, ℕ, zero, suc, ◌<◌, ◌==◌, true, false, List, [], ◌∷◌, ◌++◌, ◌⊎◌, inl, inr, length, drop, sym, ap, ◌∙◌, subst, arith, length-append}
use Rattle.std.proofs.lemmas.Bool.Decides.{nat_tests}
use Rattle.std.proofs.lemmas.List.{append-nil, get_or_default}
use Rattle.std.proofs.lemmas.List.Elements.{All-get_or, All-from_get_or, filter-append}
use Rattle.rv_model.specs.declared.entry.Entry.{Entry}
use Rattle.rv_model.specs.Seats.{entries_of}
use Rattle.rv_model.proofs.CutLemmas.{at_each-nil, at_each-snoc}
use Rattle.rv_journal.specs.declared.steps.LaneProgress.{LaneProgress}
use Rattle.rv_journal.specs.declared.steps.MergeStep.{MergeStep}
use Rattle.rv_journal.specs.declared.steps.MergeStep.TheVariants.{TurnLook, Item}
use Rattle.rv_journal.specs.CountedLanes.{CountedLaneValue}
use Rattle.rv_journal.specs.MergeOrder.{steps_after, LetsEnd, MayFollow, FirstMayFollow, MayPlaceNext, IsOfLowest}
use Rattle.rv_journal.specs.MergeSteps.{slot_in, steps_from, version}
use Rattle.rv_journal.specs.Merging.{seat_of}
use Rattle.rv_journal.specs.inner.MergeRuns.{lane_at, rests, IsLowestFirst, IsLowestReady}
use Rattle.rv_journal.specs.inner.MergeSteps.{MayPlace, CannotGo}
use Rattle.rv_journal.specs.inner.Merging.{no_lane}
use Rattle.rv_journal.proofs.MarkLemmas.{filter_yes, filter_no}
use Rattle.rv_journal.proofs.VersionEndLemmas.{lets-end, holds-none}

-- ---- lists

-- what is left behind the first that was left
drop-next : {X : Type 0} (n : ℕ) (xs : List X) (x : X) (ys : List X) → drop n xs ≡ x ∷ ys → drop (suc n) xs ≡ ys
drop-next zero [] x ys eq = absurd (cc)
drop-next zero (z ∷ xs) x ys eq = cc
drop-next (suc n) [] x ys eq = absurd (cc)
drop-next (suc n) (z ∷ xs) x ys eq = drop-next n xs x ys eq

-- an entry of the lane is one more of its seat
own-more : (n : ℕ) (h : List Entry) (e : Entry) → e.seat ≡ n → length (entries_of (λ m. m == n) (h ++ e ∷ [])) ≡ suc (length (entries_of (λ m. m == n) h))
own-more n h e is =
    let own : (e.seat == n) ≡ true = grind (arith, nat_tests) in
    let one : entries_of (λ m. m == n) (h ++ e ∷ []) ≡ entries_of (λ m. m == n) h ++ e ∷ [] = filter-append (λ (x : Entry). x.seat == n) h (e ∷ []) ∙ ap (λ (z : List Entry). entries_of (λ m. m == n) h ++ z) (filter_yes (λ (x : Entry). x.seat == n) e [] own) in
    let more = ap length one in
    let sum' = length-append (entries_of (λ m. m == n) h) (e ∷ []) in
    omega arith

-- an entry of another is none of its seat
own-same : (n : ℕ) (h : List Entry) (e : Entry) → e.seat ≢ n → entries_of (λ m. m == n) (h ++ e ∷ []) ≡ entries_of (λ m. m == n) h
own-same n h e not' =
    let no : (e.seat == n) ≡ false = grind (arith, nat_tests) in
    filter-append (λ (x : Entry). x.seat == n) h (e ∷ []) ∙ (ap (λ (z : List Entry). entries_of (λ m. m == n) h ++ z) (filter_no (λ (x : Entry). x.seat == n) e [] no) ∙ append-nil (entries_of (λ m. m == n) h))

-- ---- the lowest

module _ (lanes : List CountedLaneValue) (placed : List Entry) (cursors : List LaneProgress) (order : IsLowestFirst lanes placed cursors) where
  -- what may be placed may follow
  may-follow : (step : MergeStep) → MayPlace (length lanes) placed (rests lanes cursors) step → MayFollow lanes placed step
  may-follow TurnLook may = tt
  may-follow (Item c) may = (
    may.0,
    λ differs. All-from_get_or (λ (l : CountedLaneValue). LetsEnd (slot_in c.entry.act) (version c) (steps_after placed l)) lanes no_lane
        (λ l lt. subst (LetsEnd (slot_in c.entry.act) (version c)) (order.come l lt) (lets-end (slot_in c.entry.act) (version c) (rests lanes cursors l) (may.1 differs l lt))),
  )

  -- and what may follow may be placed
  follow-may : (step : MergeStep) → MayFollow lanes placed step → MayPlace (length lanes) placed (rests lanes cursors) step
  follow-may TurnLook may = tt
  follow-may (Item c) may = (
    may.0,
    λ differs l lt. holds-none (slot_in c.entry.act) (version c) (rests lanes cursors l)
        (subst (LetsEnd (slot_in c.entry.act) (version c)) (sym (order.come l lt)) (All-get_or (λ (x : CountedLaneValue). LetsEnd (slot_in c.entry.act) (version c) (steps_after placed x)) lanes l no_lane lt (may.1 differs))),
  )

  -- a lane that cannot go may place no entry
  cannot-place : (l : ℕ) → l < length lanes → CannotGo (length lanes) placed (rests lanes cursors) (rests lanes cursors l) → MayPlaceNext lanes placed (lane_at lanes l) → ⊥
  cannot-place l lt cannot may = by (rests lanes cursors l) cannot (subst (FirstMayFollow lanes placed) (sym (order.come l lt)) may)
    where
      by : (steps : List MergeStep) → CannotGo (length lanes) placed (rests lanes cursors) steps → FirstMayFollow lanes placed steps → ⊥
      by [] stuck first = first
      by (step ∷ steps) stuck first = stuck (follow-may step first)

  -- the entry of the lowest ready lane is of the lowest that may place one
  pub of-lowest : (place : ℕ) (e : Entry) → e.seat ≡ seat_of (lane_at lanes place) → IsLowestReady lanes placed cursors place → IsOfLowest lanes placed e
  of-lowest place e is lowest =
      let ready = lowest.ready in
      let first : FirstMayFollow lanes placed (rests lanes cursors place) = subst (FirstMayFollow lanes placed) (sym ready.at) (may-follow ready.step ready.may) in
      record {
        may = (place, lane_at lanes place, ready.low, get_or_default lanes place (lane_at lanes place) no_lane ready.low, (is, subst (FirstMayFollow lanes placed) (order.come place ready.low) first));
        lowest = All-from_get_or (λ (l : CountedLaneValue). seat_of l < e.seat → MayPlaceNext lanes placed l → ⊥) lanes no_lane (λ l lt below may. cannot-place l lt (lowest.lowest l lt (omega arith)) may);
      }

  -- with it placed, and the lane's cursor behind it, the lanes are in order
  pub order-next : (cursors' : List LaneProgress) (place : ℕ) (step : MergeStep) (steps : List MergeStep) (e : Entry) → rests lanes cursors place ≡ step ∷ steps → rests lanes cursors' place ≡ steps
      → ((l : ℕ) → l ≢ place → rests lanes cursors' l ≡ rests lanes cursors l)
      → ((l : ℕ) → l < length lanes → seat_of (lane_at lanes l) ≡ seat_of (lane_at lanes place) → l ≡ place)
      → e.seat ≡ seat_of (lane_at lanes place) → IsLowestReady lanes placed cursors place → IsLowestFirst lanes (placed ++ e ∷ []) cursors'
  order-next cursors' place step steps e at here others apart is lowest = record {
    come = λ l lt. elim (decide l place) [ inl same ↦ subst (λ (k : ℕ). rests lanes cursors' k ≡ steps_after (placed ++ e ∷ []) (lane_at lanes k)) (sym same) own | inr ne ↦ other l lt ne ];
    lowest = at_each-snoc (IsOfLowest lanes) placed e order.lowest (of-lowest place e is lowest);
  }
    where
      decide : (a b : ℕ) → (a ≡ b) ⊎ (a ≢ b)
      decide a b = grind arith

      own : rests lanes cursors' place ≡ steps_after (placed ++ e ∷ []) (lane_at lanes place)
      own =
          let lane : CountedLaneValue = lane_at lanes place in
          let left : steps_after placed lane ≡ step ∷ steps = sym (order.come place lowest.ready.low) ∙ at in
          here ∙ (sym (drop-next (length (entries_of (λ m. m == seat_of lane) placed)) (steps_from lane.counted 0 lane.work.turns) step steps left)
          ∙ ap (λ (n : ℕ). drop n (steps_from lane.counted 0 lane.work.turns)) (sym (own-more (seat_of lane) placed e is)))

      other : (l : ℕ) → l < length lanes → l ≢ place → rests lanes cursors' l ≡ steps_after (placed ++ e ∷ []) (lane_at lanes l)
      other l lt ne =
          let lane : CountedLaneValue = lane_at lanes l in
          let not' : e.seat ≢ seat_of lane = λ same. ne (apart l lt (sym same ∙ is)) in
          others l ne ∙ (order.come l lt ∙ ap (λ (h : List Entry). drop (length h) (steps_from lane.counted 0 lane.work.turns)) (sym (own-same (seat_of lane) placed e not')))

-- before the first step they are in order
pub order-first : (lanes : List CountedLaneValue) (cursors : List LaneProgress) → ((l : ℕ) → l < length lanes → rests lanes cursors l ≡ steps_from (lane_at lanes l).counted 0 (lane_at lanes l).work.turns) → IsLowestFirst lanes [] cursors
order-first lanes cursors first = record { come = first; lowest = at_each-nil (IsOfLowest lanes) }
