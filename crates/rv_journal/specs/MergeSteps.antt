-- The steps of a lane in a merge, and the version of its slot that each of them found.
use Rattle.std.specs.Prelude.{ℕ, ◌+◌, Bool, ◌==◌, List, [], ◌∷◌, ◌++◌, map, filter, length, drop, slice_range, if◌then◌else◌}
use Rattle.rv_model.specs.declared.entry.Act.{Act}
use Rattle.rv_model.specs.declared.entry.Act.TheVariants.{Deliver, Stop, Clear, End}
use Rattle.rv_model.specs.declared.entry.Entry.{Entry}
use Rattle.rv_model.specs.declared.work.Turn.{Turn}
use Rattle.rv_model.specs.Histories.{changed}
use Rattle.rv_journal.specs.declared.counted.Counted.{Counted}
use Rattle.rv_journal.specs.declared.steps.MergeStep.{MergeStep}
use Rattle.rv_journal.specs.declared.steps.MergeStep.TheVariants.{TurnLook, Item}

-- ---- steps

-- the items among the steps, in order
abbrev pub items_of : List MergeStep → List Counted
items_of [] = []
items_of (TurnLook ∷ steps) = items_of steps
items_of (Item c ∷ steps) = c ∷ items_of steps

-- the steps of items alone, with no look
abbrev pub item_steps : List Counted → List MergeStep
item_steps items = map Item items

-- the steps of a lane from the item at the index `place` on: the items before the next turn, its look, and so on
abbrev pub steps_from : List Counted → ℕ → List Turn → List MergeStep
steps_from items place [] = item_steps (drop place items)
steps_from items place (turn ∷ turns) = item_steps (slice_range items place turn.from) ++ TurnLook ∷ steps_from items turn.from turns

-- the steps after the first one
abbrev pub behind : List MergeStep → List MergeStep
behind [] = []
behind (step ∷ steps) = steps

-- ---- versions

-- the slot that an act is on, and 0 for an act on the switches
abbrev pub slot_in : Act → ℕ
slot_in (Deliver slot hit) = slot
slot_in (Stop slot) = slot
slot_in (Clear slot) = slot
slot_in (End slot) = slot
slot_in _ = 0

-- the version of its slot that an item's entry found: its count, and one more where it found the word 0, since no count
-- has the Stop before it
abbrev pub version : Counted → ℕ
version c = c.count + (if c.entry.before == 0 then 1 else 0)

-- whether the entry left its word as it was
abbrev pub leaves : Entry → Bool
leaves e = e.before == e.after

-- how many entries of a list changed the slot's word
abbrev pub changes_on : ℕ → List Entry → ℕ
changes_on slot h = length (filter (changed slot) h)
