-- A law: what a slot is doing is told by the entries on it alone.
use Rattle.std.specs.Prelude.{◌≡◌, ℕ, List, filter}
use Rattle.rv_model.specs.declared.entry.Entry.{Entry}
use Rattle.rv_model.specs.Judging.{Judge}
use Rattle.rv_model.specs.Histories.{is_on}
use Rattle.rv_model.specs.Phases.{phase_of}
use Rattle.rv_model.specs.SharedWords.{slot_word}

-- the entries on a slot
abbrev pub on_slot : ℕ → List Entry → List Entry
on_slot i past = filter (λ e. is_on i e.act) past

-- a law: the word of a slot depends on the entries on it alone
pub record SlotsApart : Type 0 where
  pub phases : (j : Judge) (start : ℕ) (past : List Entry) (i : ℕ) → phase_of j start past i ≡ phase_of j start (on_slot i past) i
  pub words : (j : Judge) (start : ℕ) (past : List Entry) (i : ℕ) → slot_word j start past i ≡ slot_word j start (on_slot i past) i
