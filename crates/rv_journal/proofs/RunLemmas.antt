-- A step is placed, as the code does it.
use Rattle.std.proofs.Common.{◌≡◌, ◌≢◌, ℕ, suc, ◌+◌, ◌<◌, ◌≤◌, true, List, [], ◌∷◌, ◌++◌, inl, inr, Option, length, set, refl, sym, ap, ◌∙◌, subst, arith, sum, length-set, get_or-set_same, get_or-set_other}
use Rattle.std.specs.Prelude.{MatchOption}
use Rattle.rv_model.specs.declared.entry.Entry.{Entry}
use Rattle.rv_model.specs.Histories.{is_on}
use Rattle.rv_journal.specs.declared.counted.Counted.{Counted}
use Rattle.rv_journal.specs.declared.steps.LaneProgress.{LaneProgress}
use Rattle.rv_journal.specs.declared.steps.VersionInterval.{VersionInterval}
use Rattle.rv_journal.specs.declared.steps.NextStep.{NextStep}
use Rattle.rv_journal.specs.declared.steps.MergeStep.{MergeStep}
use Rattle.rv_journal.specs.declared.steps.MergeStep.TheVariants.{TurnLook, Item}
use Rattle.rv_journal.specs.CountedLanes.{CountedLaneValue}
use Rattle.rv_journal.specs.MergeSteps.{slot_in, items_of}
use Rattle.rv_journal.specs.inner.MergeSteps.{rest_of, IsCursor, GoesTo, step_entry, held_by, total, MayPlace}
use Rattle.rv_journal.specs.inner.MergeStates.{IsUnderWay}
use Rattle.rv_journal.specs.inner.MergePending.{Pending, pending_at, Fallen, step_pending, next_pending, changes_after}
use Rattle.rv_journal.specs.Merging.{seat_of}
use Rattle.rv_journal.specs.inner.Merging.{lanes_of}
use Rattle.rv_journal.specs.inner.MergeRuns.{Run, lane_at, cursor_at, first_cursor, rests, steps_left, IsMerging, IsLowestReady}
use Rattle.rv_journal.proofs.SlotActLemmas.{is_on-slot, slot-below}
use Rattle.rv_journal.proofs.AddedLemmas.{next-told}
use Rattle.rv_journal.proofs.MarkLemmas.{first-left}
use Rattle.rv_journal.proofs.MergeOrderLemmas.{order-next}
use Rattle.rv_journal.proofs.PlacedLemmas.{look-placed, item-placed}
use Rattle.rv_journal.proofs.WholeLemmas.{lanes-apart, fits-at}
use Rattle.rv_journal.proofs.TotalLemmas.{same_or_not, total-less, first_lost, held-step, next-first}
use Rattle.rv_journal.proofs.SlotChangeLemmas.{step-changes, step-slots}

module _ (run : Run) (lanes : List CountedLaneValue) (placed : List Entry) (cursors : List LaneProgress) (changes : List ℕ) (pending : Pending) (m : IsMerging run lanes placed cursors changes pending)
    (place : ℕ) (low : place < length lanes) (step : MergeStep) (cursor : LaneProgress) (goes : GoesTo (lane_at lanes place) (cursor_at cursors place) step cursor) (may : MayPlace (length lanes) placed (rests lanes cursors) step) where
  -- the lane has the steps behind its cursor left
  here : rests lanes (set cursors place cursor) place ≡ rest_of (lane_at lanes place) cursor
  here = let n = m.many in ap (rest_of (lane_at lanes place)) (get_or-set_same cursors place cursor first_cursor (omega arith))

  -- the other lanes have what they had
  others : (l : ℕ) → l ≢ place → rests lanes (set cursors place cursor) l ≡ rests lanes cursors l
  others l ne = ap (rest_of (lane_at lanes l)) (get_or-set_other cursors place l cursor first_cursor ne)

  -- lanes of one seat are one
  apart : (l k : ℕ) → l < length lanes → k < length lanes → (lanes_of lanes).seat l ≡ (lanes_of lanes).seat k → l ≡ k
  apart = lanes-apart run.setup run.seen lanes m.given.can m.given.is_setup m.given.numbers

  -- its seat is that of a CPU
  low-seat : (lanes_of lanes).seat place < 67
  low-seat = let cpu = (fits-at run.setup run.seen lanes m.given.can m.given.is_setup m.given.numbers place low).cpu in omega arith

  -- the merge goes on
  under_way : (x : MergeStep) → step ≡ x → IsUnderWay run.setup m.whole (lanes_of lanes) (placed ++ step_entry (seat_of (lane_at lanes place)) run.setup.switches x ∷ []) (rests lanes (set cursors place cursor))
  under_way TurnLook is =
      look-placed run.setup m.whole (lanes_of lanes) m.given.observed apart placed (rests lanes cursors) (rests lanes (set cursors place cursor)) m.under_way place (rest_of (lane_at lanes place) cursor) low here others
      (goes.steps ∙ ap (λ (z : MergeStep). z ∷ rest_of (lane_at lanes place) cursor) is) low-seat
  under_way (Item c) is =
      item-placed run.setup m.whole (lanes_of lanes) m.given.observed apart placed (rests lanes cursors) (rests lanes (set cursors place cursor)) m.under_way place (rest_of (lane_at lanes place) cursor) low here others c
      (goes.steps ∙ ap (λ (z : MergeStep). z ∷ rest_of (lane_at lanes place) cursor) is) (subst (MayPlace (length lanes) placed (rests lanes cursors)) is may)

  -- an item is on a slot of the setup
  item-known : (c : Counted) → step ≡ Item c → (is_on (slot_in c.entry.act) c.entry.act ≡ true) × (slot_in c.entry.act < sum run.setup.shape)
  item-known c is =
      let observed = next-told run.setup m.whole (lanes_of lanes) m.given.observed placed (rests lanes cursors) m.under_way place low c (rest_of (lane_at lanes place) cursor) (goes.steps ∙ ap (λ (z : MergeStep). z ∷ rest_of (lane_at lanes place) cursor) is) in
      (is_on-slot c.entry.act observed.0, slot-below run.setup c.entry.act observed.0 observed.1)

  -- the entry of its step is its seat's
  entry-seat : (x : MergeStep) → step ≡ x → (step_entry (seat_of (lane_at lanes place)) run.setup.switches x).seat ≡ seat_of (lane_at lanes place)
  entry-seat TurnLook is = refl
  entry-seat (Item c) is =
      let at : rests lanes cursors place ≡ Item c ∷ rest_of (lane_at lanes place) cursor = goes.steps ∙ ap (λ (z : MergeStep). z ∷ rest_of (lane_at lanes place) cursor) is in
      (first-left (seat_of (lane_at lanes place)) m.under_way.marks c (items_of (rest_of (lane_at lanes place) cursor)) (sym (m.under_way.left place low) ∙ ap items_of at)).own

  -- the cursors are the lanes'
  cursors-next : (l : ℕ) → l < length lanes → IsCursor (lane_at lanes l) (cursor_at (set cursors place cursor) l)
  cursors-next l lt = elim (same_or_not l place) [
    | inl is ↦ subst (λ (k : ℕ). IsCursor (lane_at lanes k) (cursor_at (set cursors place cursor) k)) (sym is)
        (subst (IsCursor (lane_at lanes place)) (sym (let n = m.many in get_or-set_same cursors place cursor first_cursor (omega arith))) goes.is_cursor)
    | inr ne ↦ subst (IsCursor (lane_at lanes l)) (sym (get_or-set_other cursors place l cursor first_cursor ne)) (m.cursors_are l lt)
  ]

  -- what the lane holds falls by the step
  held-less : (g : VersionInterval) → total (λ l. held_by g.slot g.version (rests lanes cursors l)) (length lanes) ≡ total (λ l. held_by g.slot g.version (rests lanes (set cursors place cursor) l)) (length lanes) + (step_pending g step + first_lost g (rest_of (lane_at lanes place) cursor))
  held-less g =
      total-less (λ l. held_by g.slot g.version (rests lanes cursors l)) (λ l. held_by g.slot g.version (rests lanes (set cursors place cursor) l)) (length lanes) place (step_pending g step + first_lost g (rest_of (lane_at lanes place) cursor)) low
      (ap (held_by g.slot g.version) goes.steps ∙ (held-step g step (rest_of (lane_at lanes place) cursor) ∙ ap (λ (z : List MergeStep). held_by g.slot g.version z + (step_pending g step + first_lost g (rest_of (lane_at lanes place) cursor))) (sym here)))
      (λ l ne. ap (held_by g.slot g.version) (sym (others l ne)))

  module _ (next : Option NextStep) (then' : MatchOption next (rest_of (lane_at lanes place) cursor ≡ []) (λ n. GoesTo (lane_at lanes place) cursor n.step n.cursor)) where
    -- it is there to be released
    pub enough-waits : (g : VersionInterval) → step_pending g step + next_pending g next ≤ pending_at pending g
    enough-waits g =
        let all = m.waits_are g in
        let less = held-less g in
        let first = next-first g (lane_at lanes place) cursor next then' in
        omega arith

    module _ (waits' : Pending) (fallen : Fallen pending waits' (λ g. step_pending g step + next_pending g next)) (lowest : IsLowestReady lanes placed cursors place) where
      -- the merge goes on with the step placed
      pub next-merging : IsMerging run lanes (placed ++ step_entry (seat_of (lane_at lanes place)) run.setup.switches step ∷ []) (set cursors place cursor) (changes_after changes step) waits'
      next-merging = record {
        whole = m.whole;
        given = m.given;
        many = length-set cursors place cursor ∙ m.many;
        cursors_are = cursors-next;
        under_way = under_way step refl;
        slots = step-slots changes placed (sum run.setup.shape) m.slots m.changes_are step;
        changes_are = step-changes changes placed (sum run.setup.shape) m.slots m.changes_are (seat_of (lane_at lanes place)) run.setup.switches step item-known;
        waits_are = λ g.
            (let all = m.waits_are g in
            let less = held-less g in
            let first = next-first g (lane_at lanes place) cursor next then' in
            let f = fallen g in
            omega arith);
        order = order-next lanes placed cursors m.order (set cursors place cursor) place step (rest_of (lane_at lanes place) cursor) (step_entry (seat_of (lane_at lanes place)) run.setup.switches step)
            goes.steps here others (λ l lt same. apart l place lt low same) (entry-seat step refl) lowest;
      }

  -- fewer steps are left
  pub fewer-steps : steps_left lanes (set cursors place cursor) < steps_left lanes cursors
  fewer-steps =
      let less = total-less (λ l. length (rests lanes cursors l)) (λ l. length (rests lanes (set cursors place cursor) l)) (length lanes) place 1 low
      (ap length goes.steps ∙ (let h = ap length here in let e : suc (length (rest_of (lane_at lanes place) cursor)) ≡ length (rest_of (lane_at lanes place) cursor) + 1 = omega arith in e ∙ ap (λ (n : ℕ). n + 1) (sym h)))
      (λ l ne. ap length (sym (others l ne))) in
      omega arith
