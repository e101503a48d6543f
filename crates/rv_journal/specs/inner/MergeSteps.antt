-- How far a lane has come in a merge, what is pending, and which step may be placed.
use Rattle.std.specs.Prelude.{◌≡◌, ℕ, zero, suc, ◌+◌, ◌<◌, ◌≤◌, false, ◌&&◌, ◌==◌, List, [], ◌∷◌, length, drop, if◌then◌else◌}
use Rattle.rv_model.specs.declared.entry.Act.{Act}
use Rattle.rv_model.specs.declared.entry.Act.TheVariants.{Stop, Look}
use Rattle.rv_model.specs.declared.entry.Entry.{Entry}
use Rattle.rv_model.specs.declared.work.Turn.{Turn}
use Rattle.rv_model.specs.Works.{NamesEach}
use Rattle.rv_journal.specs.declared.counted.Counted.{Counted}
use Rattle.rv_journal.specs.declared.steps.LaneProgress.{LaneProgress}
use Rattle.rv_journal.specs.declared.steps.MergeStep.{MergeStep}
use Rattle.rv_journal.specs.declared.steps.MergeStep.TheVariants.{TurnLook, Item}
use Rattle.rv_journal.specs.CountedLanes.{CountedLaneValue}
use Rattle.rv_journal.specs.MergeSteps.{slot_in, items_of, steps_from, behind, version, leaves, changes_on}

-- ---- steps

-- the steps that are left to a lane, by how far it has come
abbrev pub rest_of : CountedLaneValue → LaneProgress → List MergeStep
rest_of lane cursor = steps_from lane.counted cursor.items (drop cursor.turns lane.work.turns)

-- the turns name the items from the index `place` on, in order, and there are `count` items
abbrev pub Ahead : ℕ → List Turn → ℕ → Type 0
Ahead place [] count = place ≤ count
Ahead place (turn ∷ turns) count = (place ≤ turn.from) × NamesEach turn.from (turn ∷ turns) count

-- the lane can have come as far as the cursor says
abbrev pub IsCursor : CountedLaneValue → LaneProgress → Type 0
IsCursor lane cursor = Ahead cursor.items (drop cursor.turns lane.work.turns) (length lane.counted)

-- the lane's next step, and how far the lane has come with it
pub record GoesTo (lane : CountedLaneValue) (cursor : LaneProgress) (step : MergeStep) (next : LaneProgress) : Type 0 where
  pub steps : rest_of lane cursor ≡ step ∷ rest_of lane next
  pub is_cursor : IsCursor lane next

-- the entry of a step: an item's own, or the look of a turn, which finds the switches
abbrev pub step_entry : ℕ → ℕ → MergeStep → Entry
step_entry seat switches TurnLook = record { seat = seat; act = Look; before = switches; after = switches }
step_entry seat switches (Item c) = c.entry

-- ---- intervals: the stretches of a slot's history between its changes

-- 1 if the item's entry found the slot at the version `r` and left its word, and else 0
abbrev pub leaves_in : ℕ → ℕ → Counted → ℕ
leaves_in slot r c = if leaves c.entry && (slot_in c.entry.act == slot && version c == r) then 1 else 0

-- 1 if the act is a Stop of the slot that was lost from the version `r` on, and else 0
abbrev pub lost_in : ℕ → ℕ → Act → ℕ → ℕ
lost_in slot r (Stop stopped) first = if stopped == slot && first == r then 1 else 0
lost_in slot r _ first = 0

-- how many of the items found the slot at the version `r` and left its word
abbrev pub leaving : ℕ → ℕ → List Counted → ℕ
leaving slot r [] = 0
leaving slot r (c ∷ items) = leaves_in slot r c + leaving slot r items

-- how many of the items are Stops of the slot that were lost from the version `r` on
abbrev pub losing : ℕ → ℕ → List Counted → ℕ
losing slot r [] = 0
losing slot r (c ∷ items) = lost_in slot r c.entry.act c.first + losing slot r items

-- how many of a lane's steps are pending in an interval: entries that leave the word there, and Stops lost from there,
-- but for one that is the lane's next step
abbrev pub held_by : ℕ → ℕ → List MergeStep → ℕ
held_by slot r steps = leaving slot r (items_of steps) + losing slot r (items_of (behind steps))

-- the sum of a function over the numbers below a bound
abbrev pub total : (ℕ → ℕ) → ℕ → ℕ
total f zero = 0
total f (suc n) = total f n + f n

-- ---- what may be placed

-- a look may be placed; an item where its slot has the version that it found, and, if it changes the word, nothing of
-- any lane is pending in that interval
abbrev pub MayPlace : ℕ → List Entry → (ℕ → List MergeStep) → MergeStep → Type 0
MayPlace many history rest TurnLook = Unit {0}
MayPlace many history rest (Item c) =
    (version c ≡ changes_on (slot_in c.entry.act) history)
    × (leaves c.entry ≡ false → (l : ℕ) → l < many → held_by (slot_in c.entry.act) (version c) (rest l) ≡ 0)

-- there is no step, or the first one may not be placed
abbrev pub CannotGo : ℕ → List Entry → (ℕ → List MergeStep) → List MergeStep → Type 0
CannotGo many history rest [] = Unit {0}
CannotGo many history rest (step ∷ steps) = MayPlace many history rest step → ⊥
