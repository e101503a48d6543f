-- How many entries and Stops are pending in each interval of a slot's history, and which step is ready.
use Rattle.std.specs.Prelude.{◌≡◌, ℕ, ◌+◌, Bool, ◌&&◌, ◌||◌, ◌==◌, List, Option, None, Some, unwrap_or, slice_index, slice_set, true, false, if◌then◌else◌}
use Rattle.std.specs.declared.hash.FoldHasher.{FoldHasher}
use Rattle.std.specs.declared.hash.BuildHasherDefault.{BuildHasherDefault}
use Rattle.std.specs.HashMap.{get, HashMap}
use Rattle.rv_model.specs.declared.entry.Act.{Act}
use Rattle.rv_model.specs.declared.entry.Act.TheVariants.{Stop}
use Rattle.rv_journal.specs.declared.counted.Counted.{Counted}
use Rattle.rv_journal.specs.declared.steps.VersionInterval.{VersionInterval}
use Rattle.rv_journal.specs.declared.steps.NextStep.{NextStep}
use Rattle.rv_journal.specs.declared.steps.MergeStep.{MergeStep}
use Rattle.rv_journal.specs.declared.steps.MergeStep.TheVariants.{TurnLook, Item}
use Rattle.rv_journal.specs.MergeSteps.{slot_in, version, leaves}
use Rattle.rv_journal.specs.inner.MergeSteps.{leaves_in, lost_in, leaving, losing}

-- the interval in which a slot has the version `r`
abbrev pub interval : ℕ → ℕ → VersionInterval
interval slot r = record { slot = slot; version = r }

-- the interval in which an item's entry found its slot
abbrev pub interval_in : Counted → VersionInterval
interval_in c = interval (slot_in c.entry.act) (version c)

-- the interval from which a Stop was lost; other acts have none
abbrev pub lost_interval : Act → ℕ → Option VersionInterval
lost_interval (Stop slot) first = Some (interval slot first)
lost_interval _ first = None

-- ---- counts

-- a map from intervals to how many entries and Stops are pending there
abbrev pub Pending : Type 0
Pending = HashMap VersionInterval ℕ (BuildHasherDefault FoldHasher)

-- whether two intervals are one
abbrev pub same_interval : VersionInterval → VersionInterval → Bool
same_interval a b = a.slot == b.slot && a.version == b.version

-- how many entries and Stops are pending in an interval: 0 where the map has no number
abbrev pub pending_at : Pending → VersionInterval → ℕ
pending_at pending g = unwrap_or (get same_interval pending g) 0

-- `count` entries and Stops are pending in the interval now, and in every other as many as before
pub record SetsPending (old new : Pending) (g : VersionInterval) (count : ℕ) : Type 0 where
  pub here : pending_at new g ≡ count
  pub others : (h : VersionInterval) → same_interval g h ≡ false → pending_at new h ≡ pending_at old h

-- ---- what is counted of items

-- how many an item makes pending in an interval before anything is placed: its entry if it leaves the word there, and a
-- Stop lost from there
abbrev pub item_pending : VersionInterval → Counted → ℕ
item_pending g c = leaves_in g.slot g.version c + lost_in g.slot g.version c.entry.act c.first

-- how many the items of a lane make pending in an interval before anything is placed
abbrev pub lane_pending : VersionInterval → List Counted → ℕ
lane_pending g items = leaving g.slot g.version items + losing g.slot g.version items

-- in each interval as many more are pending as `more` says
abbrev pub Grown : Pending → Pending → (VersionInterval → ℕ) → Type 0
Grown old new more = (g : VersionInterval) → pending_at new g ≡ pending_at old g + more g

-- in each interval as many fewer are pending as `less` says
abbrev pub Fallen : Pending → Pending → (VersionInterval → ℕ) → Type 0
Fallen old new less = (g : VersionInterval) → pending_at new g + less g ≡ pending_at old g

-- ---- what is counted of a step that is placed

-- how many a step releases in an interval when it is placed: its entry, if it leaves the word there
abbrev pub step_pending : VersionInterval → MergeStep → ℕ
step_pending g TurnLook = 0
step_pending g (Item c) = leaves_in g.slot g.version c

-- 1 if the step is a Stop that was lost from the interval, and else 0
abbrev pub lost_step : VersionInterval → MergeStep → ℕ
lost_step g TurnLook = 0
lost_step g (Item c) = lost_in g.slot g.version c.entry.act c.first

-- how many a step releases in an interval when it becomes its lane's next: a Stop lost from there
abbrev pub next_pending : VersionInterval → Option NextStep → ℕ
next_pending g None = 0
next_pending g (Some next) = lost_step g next.step

-- ---- which step is ready

-- whether a step may be placed: a look may; an item where its slot has the version that it found, and it leaves the
-- word or nothing is pending in that interval
abbrev pub is_ready : List ℕ → Pending → MergeStep → Bool
is_ready changes pending TurnLook = true
is_ready changes pending (Item c) = slice_index changes (slot_in c.entry.act) == version c && (leaves c.entry || pending_at pending (interval_in c) == 0)

-- how many changes of each slot are placed when the step is placed too
abbrev pub changes_after : List ℕ → MergeStep → List ℕ
changes_after changes TurnLook = changes
changes_after changes (Item c) = if leaves c.entry then changes else slice_set changes (slot_in c.entry.act) (slice_index changes (slot_in c.entry.act) + 1)
