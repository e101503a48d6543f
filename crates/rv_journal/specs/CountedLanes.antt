-- A CPU's lane of counted deliveries, and what a feeder adds to it.
use Rattle.std.specs.Prelude.{◌≡◌, ℕ, ◌+◌, ◌-◌, ◌<◌, ◌≤◌, Bool, List, [], ◌∷◌, ◌++◌, filter, map, length, reverse, slice_index}
use Rattle.rv_model.specs.declared.entry.Act.TheVariants.{Deliver, Stop}
use Rattle.rv_model.specs.declared.entry.Entry.{Entry}
use Rattle.rv_model.specs.declared.record.Delivered.{Delivered}
use Rattle.rv_model.specs.declared.record.Delivered.TheVariants.{Done, Racing}
use Rattle.rv_model.specs.declared.work.Delivery.{Delivery}
use Rattle.rv_model.specs.Histories.{changed}
use Rattle.rv_model.specs.Seats.{known_of, entries_of}
use Rattle.rv_model.specs.Setups.{Setup, slot_of}
use Rattle.rv_model.specs.SharedWords.{answer_at}
use Rattle.rv_model.specs.Works.{Work}
use Rattle.rv_core.specs.Advance.{FitsTable}
use Rattle.rv_core.specs.Setup.{table_at, judges_of}
use Rattle.rv_board.specs.Seats.{SeatGrows}
use Rattle.rv_journal.specs.declared.counted.Counted.{Counted}
use Rattle.rv_journal.specs.CountedWords.{count_on, rows_at, IsBelow}
use Rattle.rv_journal.specs.CountedSeats.{CountedValue}

-- what contracts see of a counted lane: its work, what its deliveries observed so far, and for how many there is room
pub record CountedLaneValue : Type 0 where
  pub work : Work
  pub counted : List Counted
  pub room : ℕ

-- no delivery of the lane's work is made yet, and there is room for what each of them observes
pub record IsNewCountedLane (work : Work) (lane : CountedLaneValue) : Type 0 where
  pub work_is : lane.work ≡ work
  pub nothing_observed : lane.counted ≡ []
  pub room : length work.deliveries ≤ lane.room

-- the slot of a delivery's instance
abbrev pub slot_at : Setup → Delivery → ℕ
slot_at s d = slot_of s.shape d.monitor d.instance

-- the monitor and the instance are the setup's, the hit fits the monitor's table, and its atoms fit the bits for levels
pub record FitsCounted (s : Setup) (d : Delivery) : Type 0 where
  pub monitor : d.monitor < length s.shape
  pub instance_fits : d.instance < slice_index s.shape d.monitor
  pub hit : FitsTable (table_at s (slot_at s d)) d.hit
  pub levels : IsBelow (32 - rows_at s (slot_at s d)) d.hit.what

-- by the outcome, the entry delivers, with the answer that the entries before it give; or it stops the slot, whose word
-- three entries changed since the first load
abbrev pub EndsAs : Setup → ℕ → Delivery → List Entry → List Entry → Entry → Delivered → Type 0
EndsAs s slot d before since entry (Done answer) = (entry.act ≡ Deliver slot d.hit) × (answer ≡ answer_at s (judges_of s) (reverse before) entry entry.act)
EndsAs s slot d before since entry Racing = (entry.act ≡ Stop slot) × (3 ≤ length (filter (changed slot) since))

-- what the delivery observed is so in the list: its first load comes after all of `seen`; of the known numbers the list
-- has the entries `own` before that load, and none from there up to the delivery's entry
pub record IsObserved (s : Setup) (known : ℕ → Bool) (seen list own : List Entry) (d : Delivery) (observed : Counted) : Type 0 where
  pub earlier : List Entry
  pub unseen : List Entry
  pub since : List Entry
  pub later : List Entry
  pub list_is : list ≡ (earlier ++ since) ++ observed.entry ∷ later
  pub least : earlier ≡ seen ++ unseen
  pub own_are : entries_of known earlier ≡ own
  pub others : entries_of known since ≡ []
  pub first : observed.first ≡ count_on (slot_at s d) earlier
  pub count : observed.count ≡ count_on (slot_at s d) (earlier ++ since)
  pub ends : EndsAs s (slot_at s d) d (earlier ++ since) since observed.entry observed.outcome

-- the entries that deliveries made, from what they observed
abbrev pub entries_observed : List Counted → List Entry
entries_observed counted = map (λ observed. observed.entry) counted

-- what each of the deliveries observed is so in the list, the first one's after the entries `own` of known numbers, and
-- each other's after one more
abbrev pub AllObservedAfter : Setup → (ℕ → Bool) → List Entry → List Entry → List Entry → List Delivery → List Counted → Type 0
AllObservedAfter s known seen list own [] [] = Unit {0}
AllObservedAfter s known seen list own [] (observed ∷ counted) = ⊥
AllObservedAfter s known seen list own (d ∷ deliveries) [] = ⊥
AllObservedAfter s known seen list own (d ∷ deliveries) (observed ∷ counted) = IsObserved s known seen list own d observed × AllObservedAfter s known seen list (own ++ observed.entry ∷ []) deliveries counted

-- the seat's list grows by one entry for each of the deliveries, in order, and `counted` is what each of them observed
pub record FeedsCounted (old new : CountedValue) (deliveries : List Delivery) (counted : List Counted) : Type 0 where
  pub grows : SeatGrows old.seat new.seat (entries_observed counted)
  pub observed : AllObservedAfter old.seat.board.setup (known_of old.seat.part) old.seat.part.seen new.seat.part.seen (entries_of (known_of old.seat.part) old.seat.part.seen) deliveries counted
  pub left : new.left + length deliveries ≡ old.left
