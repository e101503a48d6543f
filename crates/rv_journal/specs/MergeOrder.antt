-- The order in which a merge places what its lanes recorded.
use Rattle.std.specs.Prelude.{◌≡◌, ℕ, ◌<◌, true, false, ◌==◌, List, [], ◌∷◌, length, drop, All, Any}
use Rattle.rv_model.specs.declared.entry.Act.TheVariants.{Stop}
use Rattle.rv_model.specs.declared.entry.Entry.{Entry}
use Rattle.rv_model.specs.Seats.{entries_of}
use Rattle.rv_journal.specs.declared.counted.Counted.{Counted}
use Rattle.rv_journal.specs.declared.steps.MergeStep.{MergeStep}
use Rattle.rv_journal.specs.declared.steps.MergeStep.TheVariants.{TurnLook, Item}
use Rattle.rv_journal.specs.CountedLanes.{CountedLaneValue}
use Rattle.rv_journal.specs.MergeSteps.{slot_in, items_of, steps_from, behind, version, leaves, changes_on}
use Rattle.rv_journal.specs.Merging.{seat_of}

-- the steps that are left to a lane once these entries are placed: all but as many as its seat has entries there
abbrev pub steps_after : List Entry → CountedLaneValue → List MergeStep
steps_after placed lane = drop (length (entries_of (λ n. n == seat_of lane) placed)) (steps_from lane.counted 0 lane.work.turns)

-- the item's entry found the slot at the version `found`, and left its word
abbrev pub StaysAt : ℕ → ℕ → Counted → Type 0
StaysAt slot found c = (slot_in c.entry.act ≡ slot) × (version c ≡ found) × (leaves c.entry ≡ true)

-- the item is a Stop of the slot, which was lost from the version `first` on
abbrev pub LostFrom : ℕ → ℕ → Counted → Type 0
LostFrom slot first c = (c.entry.act ≡ Stop slot) × (c.first ≡ first)

-- of the steps that are left to a lane none has to come before the slot's version ends: no entry found the slot so and
-- left its word, and no Stop was lost from there but one that comes next
pub record LetsEnd (slot found : ℕ) (steps : List MergeStep) : Type 0 where
  pub none_stays : All (λ c. StaysAt slot found c → ⊥) (items_of steps)
  pub none_lost : All (λ c. LostFrom slot found c → ⊥) (items_of (behind steps))

-- the step may come behind the placed entries: a look may; an item where these have as many changes of its slot as its
-- entry found, and where each lane lets the version end, if the entry changes the word
abbrev pub MayFollow : List CountedLaneValue → List Entry → MergeStep → Type 0
MayFollow lanes placed TurnLook = Unit {0}
MayFollow lanes placed (Item c) =
    (version c ≡ changes_on (slot_in c.entry.act) placed)
    × (leaves c.entry ≡ false → All (λ l. LetsEnd (slot_in c.entry.act) (version c) (steps_after placed l)) lanes)

-- there is a first step, and it may come behind the placed entries
abbrev pub FirstMayFollow : List CountedLaneValue → List Entry → List MergeStep → Type 0
FirstMayFollow lanes placed [] = ⊥
FirstMayFollow lanes placed (step ∷ steps) = MayFollow lanes placed step

-- the lane may place its next entry behind these
abbrev pub MayPlaceNext : List CountedLaneValue → List Entry → CountedLaneValue → Type 0
MayPlaceNext lanes placed lane = FirstMayFollow lanes placed (steps_after placed lane)

-- the entry behind these is of a lane that may place its next one there, and no lane of a lower CPU may
pub record IsOfLowest (lanes : List CountedLaneValue) (placed : List Entry) (e : Entry) : Type 0 where
  pub may : Any (λ l. (e.seat ≡ seat_of l) × MayPlaceNext lanes placed l) lanes
  pub lowest : All (λ l. seat_of l < e.seat → MayPlaceNext lanes placed l → ⊥) lanes
