-- What holds of the program's lists and counts while a merge is under way.
use Rattle.std.specs.Prelude.{◌≡◌, ℕ, ◌<◌, List, ◌∷◌, ◌++◌, length, sum, slice_index, slice_index_or, All}
use Rattle.rv_model.specs.declared.entry.Entry.{Entry}
use Rattle.rv_model.specs.Cuts.{AtEach}
use Rattle.rv_model.specs.Setups.{Setup}
use Rattle.rv_model.specs.Works.{IsWork}
use Rattle.rv_core.specs.Setup.{IsSetup}
use Rattle.rv_journal.specs.declared.counted.Counted.{Counted}
use Rattle.rv_journal.specs.declared.steps.LaneProgress.{LaneProgress}
use Rattle.rv_journal.specs.declared.steps.VersionInterval.{VersionInterval}
use Rattle.rv_journal.specs.declared.steps.MergeStep.{MergeStep}
use Rattle.rv_journal.specs.declared.steps.MergeStep.TheVariants.{TurnLook, Item}
use Rattle.rv_journal.specs.CountedLanes.{CountedLaneValue}
use Rattle.rv_journal.specs.MergeSteps.{slot_in, changes_on}
use Rattle.rv_journal.specs.inner.MergeSteps.{rest_of, IsCursor, held_by, total, MayPlace, CannotGo}
use Rattle.rv_journal.specs.MergeOrder.{steps_after, IsOfLowest}
use Rattle.rv_journal.specs.MergeStates.{entries_in}
use Rattle.rv_journal.specs.inner.MergeStates.{AreKnownItems, IsUnderWay}
use Rattle.rv_journal.specs.inner.MergePending.{Pending, pending_at, lane_pending}
use Rattle.rv_journal.specs.Merging.{CanMerge, seat_of}
use Rattle.rv_journal.specs.inner.Merging.{NumbersFit, no_lane, lanes_of}

-- what is merged: the setup, and the history of which the lanes have parts
pub record Run : Type 0 where
  pub setup : Setup
  pub seen : List Entry

-- the merge of a history, by its setup
abbrev pub merge_run : Setup → List Entry → Run
merge_run setup seen = record { setup = setup; seen = seen }

-- how far a lane has come before its first step
abbrev pub first_cursor : LaneProgress
first_cursor = record { turns = 0; items = 0 }

-- the lane at an index, and one with nothing to do past the end
abbrev pub lane_at : List CountedLaneValue → ℕ → CountedLaneValue
lane_at lanes l = slice_index_or lanes l no_lane

-- how far the lane at an index has come
abbrev pub cursor_at : List LaneProgress → ℕ → LaneProgress
cursor_at cursors l = slice_index_or cursors l first_cursor

-- the steps that are left to the lane at an index
abbrev pub rests : List CountedLaneValue → List LaneProgress → ℕ → List MergeStep
rests lanes cursors l = rest_of (lane_at lanes l) (cursor_at cursors l)

-- how many steps are left to all lanes
abbrev pub steps_left : List CountedLaneValue → List LaneProgress → ℕ
steps_left lanes cursors = total (λ l. length (rests lanes cursors l)) (length lanes)

-- the lanes can be merged, and `whole` is the list of all their items, in the order of the history
pub record IsGiven (run : Run) (lanes : List CountedLaneValue) (whole : List Counted) : Type 0 where
  pub can : CanMerge run.setup run.seen lanes
  pub is_setup : IsSetup run.setup
  pub numbers : All (λ l. All NumbersFit l.counted) lanes
  pub works : All (λ l. IsWork l.work) lanes
  pub entries_are : entries_in whole ≡ run.seen
  pub observed : AreKnownItems run.setup whole
  pub owned : (before : List Counted) (c : Counted) (after : List Counted) → whole ≡ before ++ c ∷ after → (l : ℕ) × (l < length lanes) × (c.entry.seat ≡ seat_of (lane_at lanes l))

-- the lanes have come as far as the entries that are placed, and each of these was of the lowest lane that could go on
pub record IsLowestFirst (lanes : List CountedLaneValue) (placed : List Entry) (cursors : List LaneProgress) : Type 0 where
  pub come : (l : ℕ) → l < length lanes → rests lanes cursors l ≡ steps_after placed (lane_at lanes l)
  pub lowest : AtEach (IsOfLowest lanes) placed

-- the program's lists are those of a merge under way: what is placed, how far the lanes have come, how many changes of
-- each slot are placed, and how many are pending in each interval
pub record IsMerging (run : Run) (lanes : List CountedLaneValue) (placed : List Entry) (cursors : List LaneProgress) (changes : List ℕ) (pending : Pending) : Type 0 where
  pub whole : List Counted
  pub given : IsGiven run lanes whole
  pub many : length cursors ≡ length lanes
  pub cursors_are : (l : ℕ) → l < length lanes → IsCursor (lane_at lanes l) (cursor_at cursors l)
  pub under_way : IsUnderWay run.setup whole (lanes_of lanes) placed (rests lanes cursors)
  pub slots : length changes ≡ sum run.setup.shape
  pub changes_are : (slot : ℕ) → slot < sum run.setup.shape → slice_index changes slot ≡ changes_on slot placed
  pub waits_are : (g : VersionInterval) → pending_at pending g ≡ total (λ l. held_by g.slot g.version (rests lanes cursors l)) (length lanes)
  pub order : IsLowestFirst lanes placed cursors

-- the slot of a step is below the number of slots
abbrev pub InSlots : ℕ → MergeStep → Type 0
InSlots slots TurnLook = Unit {0}
InSlots slots (Item c) = slot_in c.entry.act < slots

-- the lane at the index `place` has a next step, which may be placed
pub record IsReadyAt (lanes : List CountedLaneValue) (placed : List Entry) (cursors : List LaneProgress) (place : ℕ) : Type 0 where
  pub low : place < length lanes
  pub step : MergeStep
  pub steps : List MergeStep
  pub at : rests lanes cursors place ≡ step ∷ steps
  pub may : MayPlace (length lanes) placed (rests lanes cursors) step

-- the lane at the index `place` has no next step, or one that may not be placed
abbrev pub CannotGoAt : List CountedLaneValue → List Entry → List LaneProgress → ℕ → Type 0
CannotGoAt lanes placed cursors place = CannotGo (length lanes) placed (rests lanes cursors) (rests lanes cursors place)

-- no lane's next step may be placed
abbrev pub NoneReady : List CountedLaneValue → List Entry → List LaneProgress → Type 0
NoneReady lanes placed cursors = (l : ℕ) → l < length lanes → CannotGoAt lanes placed cursors l

-- the next step of the lane at the index `place` may be placed, and that of no lane with a lower CPU
pub record IsLowestReady (lanes : List CountedLaneValue) (placed : List Entry) (cursors : List LaneProgress) (place : ℕ) : Type 0 where
  pub ready : IsReadyAt lanes placed cursors place
  pub lowest : (l : ℕ) → l < length lanes → (lane_at lanes l).work.cpu < (lane_at lanes place).work.cpu → CannotGoAt lanes placed cursors l

-- the first `count` lanes are before their first steps, and all that their items make pending is counted
pub record NewLanes (lanes : List CountedLaneValue) (count : ℕ) (cursors : List LaneProgress) (pending : Pending) : Type 0 where
  pub many : length cursors ≡ count
  pub first : (l : ℕ) → l < count → cursor_at cursors l ≡ first_cursor
  pub permitted : (g : VersionInterval) → pending_at pending g ≡ total (λ l. lane_pending g (lane_at lanes l).counted) count
