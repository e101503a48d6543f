-- The list of all lanes' items, which of them are placed, and what holds while a merge is under way.
use Rattle.std.specs.Prelude.{◌≡◌, ℕ, ◌<◌, ◌≤◌, ◌^◌, Bool, true, false, ◌&&◌, not, ◌==◌, List, [], ◌∷◌, ◌++◌, map, filter}
use Rattle.rv_model.specs.declared.entry.Act.{Act}
use Rattle.rv_model.specs.declared.entry.Act.TheVariants.{Deliver, Stop, Look}
use Rattle.rv_model.specs.declared.entry.Entry.{Entry}
use Rattle.rv_model.specs.Cuts.{AtEach}
use Rattle.rv_model.specs.Histories.{IsSound, FitsWords, NoneOf, changed}
use Rattle.rv_model.specs.Seats.{entries_of}
use Rattle.rv_model.specs.Setups.{Setup}
use Rattle.rv_core.specs.Setup.{judges_of, FitsAct, ActFits}
use Rattle.rv_board.specs.inner.Rule.{IsMachine}
use Rattle.rv_journal.specs.declared.counted.Counted.{Counted}
use Rattle.rv_journal.specs.declared.steps.MergeStep.{MergeStep}
use Rattle.rv_journal.specs.declared.steps.MergeStep.TheVariants.{TurnLook, Item}
use Rattle.rv_journal.specs.MergeSteps.{slot_in, items_of, version, changes_on}
use Rattle.rv_journal.specs.inner.MergeSteps.{step_entry, held_by}
use Rattle.rv_journal.specs.MergeStates.{entries_in, StandsAs}

-- ---- the whole list

-- the act is a delivery or a stop
abbrev pub IsItemAct : Act → Type 0
IsItemAct (Deliver slot hit) = Unit {0}
IsItemAct (Stop slot) = Unit {0}
IsItemAct _ = ⊥

-- since the slot had `first` changes the seat has no entry, and the slot has three changes more
pub record LostAt (slot seat first : ℕ) (before : List Entry) : Type 0 where
  pub until : List Entry
  pub since : List Entry
  pub is : before ≡ until ++ since
  pub none : NoneOf seat since
  pub first_is : first ≡ changes_on slot until
  pub three : 3 ≤ changes_on slot since

-- what is known of an item of the whole list, by the entries before it
pub record IsKnownItem (s : Setup) (before : List Entry) (c : Counted) : Type 0 where
  pub machine : IsMachine s before
  pub words : FitsWords s (judges_of s) before c.entry
  pub item_act : IsItemAct c.entry.act
  pub fits : FitsAct s c.entry.act
  pub bits : ActFits s c.entry.act
  pub small : c.entry.after < 2 ^ 64
  pub low : c.entry.seat < 67
  pub rank_is : version c ≡ changes_on (slot_in c.entry.act) before
  pub lost : (slot : ℕ) → c.entry.act ≡ Stop slot → LostAt slot c.entry.seat c.first before

-- every item of the list is known so, by the entries of the items before it
abbrev pub AreKnownItems : Setup → List Counted → Type 0
AreKnownItems s items = (before : List Counted) (c : Counted) (after : List Counted) → items ≡ before ++ c ∷ after → IsKnownItem s (entries_in before) c

-- ---- marks: which items of the whole list are placed

-- an item, and whether it is placed
pub record Mark : Type 0 where
  pub item : Counted
  pub placed : Bool

-- an item with the mark that it is placed, or that it is not
abbrev pub mark : Bool → Counted → Mark
mark placed item = record { item = item; placed = placed }

-- the items of marks, placed or not
abbrev pub items_in : List Mark → List Counted
items_in marks = map (λ m. m.item) marks

-- the entry of a marked item
abbrev pub entry_in : Mark → Entry
entry_in m = m.item.entry

-- whether the item is the seat's and not placed
abbrev pub is_left : ℕ → Mark → Bool
is_left seat m = not m.placed && (m.item.entry.seat == seat)

-- of the marks that change the slot's word the first ones are placed, and these are the changes in the history
pub record Divides (slot : ℕ) (history : List Entry) (marks : List Mark) : Type 0 where
  pub done : List Counted
  pub todo : List Counted
  pub marks_are : filter (λ m. changed slot (entry_in m)) marks ≡ map (mark true) done ++ map (mark false) todo
  pub history_is : filter (changed slot) history ≡ entries_in done

-- ---- the lanes

-- all entries of the seat lie in a beginning of the history that has at most `first` changes of the slot
pub record LastBy (slot seat first : ℕ) (history : List Entry) : Type 0 where
  pub until : List Entry
  pub since : List Entry
  pub is : history ≡ until ++ since
  pub none : NoneOf seat since
  pub few : changes_on slot until ≤ first

-- where the next step is a Stop, all entries of its seat come before the slot has more changes than its first load
-- found
abbrev pub NextIsJustified : ℕ → List Entry → List MergeStep → Type 0
NextIsJustified seat history [] = Unit {0}
NextIsJustified seat history (TurnLook ∷ steps) = Unit {0}
NextIsJustified seat history (Item c ∷ steps) = (slot : ℕ) → c.entry.act ≡ Stop slot → LastBy slot seat c.first history

-- the act is a delivery, a stop or a look
abbrev pub IsMergedAct : Act → Type 0
IsMergedAct (Deliver slot hit) = Unit {0}
IsMergedAct (Stop slot) = Unit {0}
IsMergedAct Look = Unit {0}
IsMergedAct _ = ⊥

-- the entries of steps, whose looks are by the seat and find the switches
abbrev pub step_entries : ℕ → ℕ → List MergeStep → List Entry
step_entries seat switches steps = map (step_entry seat switches) steps

-- the lanes of a merge: how many there are, the seat of each, and all of its steps
pub record Lanes : Type 0 where
  pub many : ℕ
  pub seat : ℕ → ℕ
  pub script : ℕ → List MergeStep

-- a merge is under way: what holds of its history, by the list of all items, the lanes, and the steps that are left to
-- each
pub record IsUnderWay (s : Setup) (whole : List Counted) (lanes : Lanes) (history : List Entry) (rest : ℕ → List MergeStep) : Type 0 where
  pub marks : List Mark
  pub marks_are : items_in marks ≡ whole
  pub left : (l : ℕ) → l < lanes.many → items_of (rest l) ≡ items_in (filter (is_left (lanes.seat l)) marks)
  pub divides : (slot : ℕ) → Divides slot history marks
  pub quiet : (slot r : ℕ) → r < changes_on slot history → (l : ℕ) → l < lanes.many → held_by slot r (rest l) ≡ 0
  pub justified : (l : ℕ) → l < lanes.many → NextIsJustified (lanes.seat l) history (rest l)
  pub stands : (before : List Mark) (c : Counted) (after : List Mark) → marks ≡ before ++ mark true c ∷ after → StandsAs history (entries_in (items_in before)) c.entry
  pub machine : IsMachine s history
  pub sound : IsSound s (judges_of s) history
  pub acts : AtEach (λ before e. IsMergedAct e.act) history
  pub fits : AtEach (λ before e. FitsAct s e.act) history
  pub others : AtEach (λ before e. (l : ℕ) × (l < lanes.many) × (e.seat ≡ lanes.seat l)) history
  pub lists : (l : ℕ) → l < lanes.many → entries_of (λ n. n == lanes.seat l) history ++ step_entries (lanes.seat l) s.switches (rest l) ≡ step_entries (lanes.seat l) s.switches (lanes.script l)
