-- Which step is ready, and what is read at a lane's index.
use Rattle.std.proofs.Common.{◌≡◌, ℕ, ◌<◌, ◌≤◌, ◌==◌, Bool, true, false, not, ◌||◌, List, ◌∷◌, ◌⊎◌, inl, inr, length, get_or, refl, sym, ◌∙◌, subst, arith, sum}
use Rattle.std.proofs.lemmas.Bool.{and_parts}
use Rattle.std.proofs.lemmas.Bool.Decides.{nat_tests}
use Rattle.std.proofs.lemmas.List.{get_or_default, get_or_past}
use Rattle.std.proofs.lemmas.List.Filters.{length-filter_both}
use Rattle.rv_model.specs.declared.entry.Entry.{Entry}
use Rattle.rv_model.specs.Histories.{changed}
use Rattle.rv_journal.specs.declared.steps.LaneProgress.{LaneProgress}
use Rattle.rv_journal.specs.declared.steps.MergeStep.{MergeStep}
use Rattle.rv_journal.specs.declared.steps.MergeStep.TheVariants.{TurnLook, Item}
use Rattle.rv_journal.specs.CountedLanes.{CountedLaneValue}
use Rattle.rv_journal.specs.MergeSteps.{slot_in, version, leaves}
use Rattle.rv_journal.specs.inner.MergeSteps.{rest_of, IsCursor, GoesTo, held_by, MayPlace, CannotGo}
use Rattle.rv_journal.specs.inner.MergePending.{Pending, pending_at, interval_in, is_ready}
use Rattle.rv_journal.specs.inner.Merging.{lanes_of, no_lane}
use Rattle.rv_journal.specs.inner.MergeRuns.{Run, lane_at, cursor_at, first_cursor, rests, IsMerging, InSlots, IsReadyAt}
use Rattle.rv_journal.proofs.SlotActLemmas.{slot-below}
use Rattle.rv_journal.proofs.AddedLemmas.{next-told}
use Rattle.rv_journal.proofs.TotalLemmas.{total-least, total-none}

-- ---- which step is ready
module _ (run : Run) (lanes : List CountedLaneValue) (placed : List Entry) (cursors : List LaneProgress) (changes : List ℕ) (pending : Pending) (m : IsMerging run lanes placed cursors changes pending) where
  -- the slot of a lane's next step is one of the setup's
  pub next-in_slots : (place : ℕ) → place < length lanes → (step : MergeStep) (steps : List MergeStep) → rests lanes cursors place ≡ step ∷ steps → InSlots (sum run.setup.shape) step
  next-in_slots place low TurnLook after at = tt
  next-in_slots place low (Item c) after at =
      let observed = next-told run.setup m.whole (lanes_of lanes) m.given.observed placed (rests lanes cursors) m.under_way place low c after at in
      slot-below run.setup c.entry.act observed.0 observed.1

  -- the test says it
  pub ready-may : (step : MergeStep) → InSlots (sum run.setup.shape) step → is_ready changes pending step ≡ true → MayPlace (length lanes) placed (rests lanes cursors) step
  ready-may TurnLook in' is = tt
  ready-may (Item c) in' is =
      let parts = and_parts (get_or changes (slot_in c.entry.act) 0 == version c) (leaves c.entry || pending_at pending (interval_in c) == 0) is in
      let first = parts.0 in
      let counted : get_or changes (slot_in c.entry.act) 0 ≡ version c = grind (arith, nat_tests) in
      let are = m.changes_are (slot_in c.entry.act) in' in
      (sym counted ∙ are, λ differs. none differs (either (leaves c.entry) (pending_at pending (interval_in c) == 0) parts.1 differs))
    where
      either : (a b : Bool) → (a || b) ≡ true → a ≡ false → b ≡ true
      either true b e n = absurd (let no : true ≡ false = n in cc)
      either false b e n = e

      none : leaves c.entry ≡ false → (pending_at pending (interval_in c) == 0) ≡ true → (l : ℕ) → l < length lanes → held_by (slot_in c.entry.act) (version c) (rests lanes cursors l) ≡ 0
      none differs zero' l lt =
          let z : pending_at pending (interval_in c) ≡ 0 = grind (arith, nat_tests) in
          let all = m.waits_are (interval_in c) in
          let least = total-least (λ k. held_by (slot_in c.entry.act) (version c) (rests lanes cursors k)) (length lanes) l lt in
          omega arith

  -- and only where it is so
  pub unready-cannot : (step : MergeStep) → InSlots (sum run.setup.shape) step → is_ready changes pending step ≡ false → MayPlace (length lanes) placed (rests lanes cursors) step → ⊥
  unready-cannot TurnLook in' is may = let no : true ≡ false = is in cc
  unready-cannot (Item c) in' is may = by (leaves c.entry) refl
    where
      counted : (get_or changes (slot_in c.entry.act) 0 == version c) ≡ true
      counted = let are = m.changes_are (slot_in c.entry.act) in' in let r = may.0 in grind (arith, nat_tests)

      by : (b : Bool) → leaves c.entry ≡ b → ⊥
      by true yes' = let wrong : is_ready changes pending (Item c) ≡ true = rw (counted, yes') refl in let no : true ≡ false = sym wrong ∙ is in cc
      by false differs =
          let all = m.waits_are (interval_in c) in
          let none = total-none (λ k. held_by (slot_in c.entry.act) (version c) (rests lanes cursors k)) (length lanes) (may.1 differs) in
          let z : (pending_at pending (interval_in c) == 0) ≡ true = grind (arith, nat_tests) in
          let wrong : is_ready changes pending (Item c) ≡ true = rw (counted, differs, z) refl in let no : true ≡ false = sym wrong ∙ is in cc

-- ---- what is read

-- the lane that is read at a place
pub lane-read : (lanes : List CountedLaneValue) (place : ℕ) (x : CountedLaneValue) → place < length lanes → x ≡ get_or lanes place x → lane_at lanes place ≡ x
lane-read lanes place x low read = get_or_default lanes place no_lane x low ∙ sym read

module _ (run : Run) (lanes : List CountedLaneValue) (placed : List Entry) (cursors : List LaneProgress) (changes : List ℕ) (pending : Pending) (m : IsMerging run lanes placed cursors changes pending)
    (place : ℕ) (low : place < length lanes) (x : LaneProgress) (read : x ≡ get_or cursors place x) where
  -- the cursor that is read there
  pub cursor-read : x ≡ cursor_at cursors place
  cursor-read = read ∙ get_or_default cursors place x first_cursor (let n = m.many in omega arith)

  -- it is the lane's
  pub cursor-is : IsCursor (lane_at lanes place) x
  cursor-is = subst (IsCursor (lane_at lanes place)) (sym cursor-read) (m.cursors_are place low)

  module _ (step : MergeStep) (cursor : LaneProgress) (goes : GoesTo (lane_at lanes place) x step cursor) where
    -- its next step
    pub goes-there : GoesTo (lane_at lanes place) (cursor_at cursors place) step cursor
    goes-there = subst (λ (z : LaneProgress). GoesTo (lane_at lanes place) z step cursor) cursor-read goes

    -- its slot is one of those that are counted
    pub read-in_slots : InSlots (length changes) step
    read-in_slots = subst (λ (n : ℕ). InSlots n step) (sym m.slots) (next-in_slots run lanes placed cursors changes pending m place low step (rest_of (lane_at lanes place) cursor) goes-there.steps)

    -- and of the setup
    in_slots : InSlots (sum run.setup.shape) step
    in_slots = next-in_slots run lanes placed cursors changes pending m place low step (rest_of (lane_at lanes place) cursor) goes-there.steps

    -- it is ready where the test says so
    pub ready-there : is_ready changes pending step ≡ true → IsReadyAt lanes placed cursors place
    ready-there is = record { low = low; step = step; steps = rest_of (lane_at lanes place) cursor; at = goes-there.steps; may = ready-may run lanes placed cursors changes pending m step in_slots is }

    -- and else it cannot go
    pub unready-there : is_ready changes pending step ≡ false → CannotGo (length lanes) placed (rests lanes cursors) (rests lanes cursors place)
    unready-there is = subst (CannotGo (length lanes) placed (rests lanes cursors)) (sym goes-there.steps) (unready-cannot run lanes placed cursors changes pending m step in_slots is)

    -- what may be placed there is this step
    pub may-there : IsReadyAt lanes placed cursors place → MayPlace (length lanes) placed (rests lanes cursors) step
    may-there ready =
        let both : step ∷ rest_of (lane_at lanes place) cursor ≡ ready.step ∷ ready.steps = sym goes-there.steps ∙ ready.at in
        let same : ready.step ≡ step = cc in
        subst (MayPlace (length lanes) placed (rests lanes cursors)) same ready.may

-- a slot has no more changes than there are entries
pub changes-few : (run : Run) (lanes : List CountedLaneValue) (placed : List Entry) (cursors : List LaneProgress) (changes : List ℕ) (pending : Pending) → IsMerging run lanes placed cursors changes pending → (slot : ℕ) → get_or changes slot 0 ≤ length placed
changes-few run lanes placed cursors changes pending m slot = elim (decide slot (sum run.setup.shape)) [
  | inl lt ↦ let are = m.changes_are slot lt in let parts = length-filter_both (changed slot) (λ (e : Entry). not (changed slot e)) (λ e. refl) placed in omega arith
  | inr ge ↦ let n = m.slots in let none : get_or changes slot 0 ≡ 0 = get_or_past changes slot 0 (omega arith) in omega arith
]
  where
    decide : (a b : ℕ) → (a < b) ⊎ (b ≤ a)
    decide a b = grind arith
