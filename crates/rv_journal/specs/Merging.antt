-- What lanes have to be for a merge, and the one legal history that they become.
use Rattle.std.specs.Prelude.{◌≡◌, ◌≢◌, ◌⊎◌, ℕ, ◌+◌, ◌<◌, ◌≤◌, true, false, ◌==◌, not, List, [], ◌∷◌, ◌++◌, map, filter, length, All, Any, AllPairs, slice_index}
use Rattle.rv_model.specs.declared.entry.Act.{Act}
use Rattle.rv_model.specs.declared.entry.Act.TheVariants.{Deliver, Stop}
use Rattle.rv_model.specs.declared.entry.Entry.{Entry}
use Rattle.rv_model.specs.declared.work.Delivery.{Delivery}
use Rattle.rv_model.specs.Cuts.{AtEach}
use Rattle.rv_model.specs.Histories.{input_with, IsSound, IsLegal, NoneOf, changed}
use Rattle.rv_model.specs.Numbers.{has_bit}
use Rattle.rv_model.specs.Records.{is_look_act}
use Rattle.rv_model.specs.Scripts.{is_enabled_by}
use Rattle.rv_model.specs.Seats.{entries_of}
use Rattle.rv_model.specs.Setups.{Setup, slot_of}
use Rattle.rv_model.specs.Works.{Work}
use Rattle.rv_core.specs.Advance.{FitsTable}
use Rattle.rv_core.specs.Setup.{FitsAct, judges_of, table_at}
use Rattle.rv_journal.specs.declared.counted.Counted.{Counted}
use Rattle.rv_journal.specs.CountedLanes.{CountedLaneValue}
use Rattle.rv_journal.specs.CountedWords.{count_on}
use Rattle.rv_journal.specs.MergeSteps.{slot_in}
use Rattle.rv_journal.specs.MergeStates.{entries_in, StandsAs}

-- ---- parts of a history

-- `first` is the slot's count after some first entries; since then the seat has none, and three changed the slot's word
pub record IsLost (slot seat first : ℕ) (before : List Entry) : Type 0 where
  pub until : List Entry
  pub since : List Entry
  pub is : before ≡ until ++ since
  pub none : NoneOf seat since
  pub first_is : first ≡ count_on slot until
  pub three : 3 ≤ length (filter (changed slot) since)

-- the item's entry is in the history, its seat's entries before it are `earlier`, and the slot's count just before it
-- is the item's; a Stop was lost since its `first`
pub record IsCountedIn (seen : List Entry) (seat : ℕ) (earlier : List Entry) (c : Counted) : Type 0 where
  pub before : List Entry
  pub after : List Entry
  pub is : seen ≡ before ++ c.entry ∷ after
  pub own : entries_of (λ n. n == seat) before ≡ earlier
  pub count_is : c.count ≡ count_on (slot_in c.entry.act) before
  pub lost : (slot : ℕ) → c.entry.act ≡ Stop slot → IsLost slot seat c.first before

-- the items are the seat's part of the history, each with its slot's count just before it
pub record IsSeatPartOf (seen : List Entry) (seat : ℕ) (items : List Counted) : Type 0 where
  pub entries_are : entries_in items ≡ entries_of (λ n. n == seat) seen
  pub each : (front : List Counted) (c : Counted) (back : List Counted) → items ≡ front ++ c ∷ back → IsCountedIn seen seat (entries_in front) c

-- ---- what can be merged

-- the monitor and the instance are the setup's, and the hit fits the monitor's table
pub record FitsSetup (s : Setup) (d : Delivery) : Type 0 where
  pub monitor : d.monitor < length s.shape
  pub instance_fits : d.instance < slice_index s.shape d.monitor
  pub hit : FitsTable (table_at s (slot_of s.shape d.monitor d.instance)) d.hit

-- the act delivers the delivery's hit on its slot, or stops the slot
abbrev pub Serves : Setup → Delivery → Act → Type 0
Serves s d act = (act ≡ Deliver (slot_of s.shape d.monitor d.instance) d.hit) ⊎ (act ≡ Stop (slot_of s.shape d.monitor d.instance))

-- there are as many items as deliveries, and each serves the delivery at its index
abbrev pub AllServed : Setup → List Delivery → List Counted → Type 0
AllServed s [] [] = Unit {0}
AllServed s [] (c ∷ items) = ⊥
AllServed s (d ∷ deliveries) [] = ⊥
AllServed s (d ∷ deliveries) (c ∷ items) = Serves s d c.entry.act × AllServed s deliveries items

-- the number of the seat of a lane's CPU
abbrev pub seat_of : CountedLaneValue → ℕ
seat_of lane = 2 + lane.work.cpu

-- the lane's deliveries fit the setup, whose switches enable them; its items serve them, and are its CPU's part of the
-- history
pub record FitsLane (s : Setup) (seen : List Entry) (lane : CountedLaneValue) : Type 0 where
  pub cpu : lane.work.cpu < 64
  pub fit : All (FitsSetup s) lane.work.deliveries
  pub enabled : All (λ d. is_enabled_by s.switches d ≡ true) lane.work.deliveries
  pub served : AllServed s lane.work.deliveries lane.counted
  pub part : IsSeatPartOf seen (seat_of lane) lane.counted

-- the history is sound and has the entries of the lanes and no others; the lanes are of different CPUs, and the halted
-- switch is off
pub record CanMerge (s : Setup) (seen : List Entry) (lanes : List CountedLaneValue) : Type 0 where
  pub sound : IsSound s (judges_of s) seen
  pub fit : All (FitsLane s seen) lanes
  pub cpus : AllPairs (λ l m. l.work.cpu ≢ m.work.cpu) lanes
  pub no_other : AtEach (λ before e. Any (λ l. e.seat ≡ seat_of l) lanes) seen
  pub running : has_bit s.switches 34 ≡ false

-- ---- what it becomes

-- but for looks, the merged history has each seat's entries in their order, and each slot's changes in theirs; each
-- entry lies between the same two changes of its slot as in `seen`
pub record MergedFrom (seen merged : List Entry) : Type 0 where
  pub seats : (seat : ℕ) → filter (λ e. not (is_look_act e.act)) (entries_of (λ n. n == seat) merged) ≡ entries_of (λ n. n == seat) seen
  pub changes : (slot : ℕ) → filter (changed slot) merged ≡ filter (changed slot) seen
  pub between : AtEach (StandsAs merged) seen

-- the works of the lanes, in order
abbrev pub works_of : List CountedLaneValue → List Work
works_of lanes = map (λ l. l.work) lanes

-- the merged history is legal for the lanes' works, by the tables, with no reactor that is panic and no changes; its
-- acts fit the setup, and it is merged from what was seen
pub record IsMergeOf (s : Setup) (seen : List Entry) (lanes : List CountedLaneValue) (merged : List Entry) : Type 0 where
  pub legal : IsLegal (input_with s [] (λ _. false) (works_of lanes) []) (judges_of s) merged
  pub fits : AtEach (λ before e. FitsAct s e.act) merged
  pub from : MergedFrom seen merged
