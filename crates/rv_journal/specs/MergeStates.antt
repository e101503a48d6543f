-- The entries of items, and when a history has an entry where another list has it.
use Rattle.std.specs.Prelude.{◌≡◌, List, ◌∷◌, ◌++◌, map, filter}
use Rattle.rv_model.specs.declared.entry.Entry.{Entry}
use Rattle.rv_model.specs.Histories.{changed}
use Rattle.rv_journal.specs.declared.counted.Counted.{Counted}
use Rattle.rv_journal.specs.MergeSteps.{slot_in}

-- the entries of items, in order
abbrev pub entries_in : List Counted → List Entry
entries_in items = map (λ c. c.entry) items

-- the history has the entry `e`, and before it the same changes of its slot's word as the list `before` has
pub record StandsAs (history before : List Entry) (e : Entry) : Type 0 where
  pub front : List Entry
  pub back : List Entry
  pub is : history ≡ front ++ e ∷ back
  pub changes_are : filter (changed (slot_in e.act)) front ≡ filter (changed (slot_in e.act)) before
