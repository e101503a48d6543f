-- What a recorded run asks of its works, and what it comes to.
use Rattle.std.specs.Prelude.{◌≡◌, ◌<◌, ◌≤◌, true, false, List, [], length, All}
use Rattle.rv_model.specs.declared.entry.Entry.{Entry}
use Rattle.rv_model.specs.declared.formula.Spec.{Spec}
use Rattle.rv_model.specs.Histories.{input_with, IsLegal, AreJudges}
use Rattle.rv_model.specs.Scripts.{is_enabled_by}
use Rattle.rv_model.specs.Setups.{Setup}
use Rattle.rv_model.specs.Works.{Work}
use Rattle.rv_core.specs.Setup.{judges_of}
use Rattle.rv_journal.specs.CountedLanes.{FitsCounted}
use Rattle.rv_journal.specs.CountedWords.{most_entries}

-- the CPU has a seat, which may make an entry for each delivery; the deliveries fit the board, and the switches enable
-- each
pub record FitsCountedWork (s : Setup) (w : Work) : Type 0 where
  pub cpu : w.cpu < 64
  pub few : length w.deliveries ≤ most_entries
  pub fit : All (FitsCounted s) w.deliveries
  pub enabled : All (λ d. is_enabled_by s.switches d ≡ true) w.deliveries

-- the tables judge by the specifications, and by the tables the history is a legal one of the works, with no reactor
-- that is panic and no changes
pub record IsLegalBy (s : Setup) (specs : List Spec) (works : List Work) (h : List Entry) : Type 0 where
  pub are_judges : AreJudges specs s.tables (judges_of s)
  pub legal : IsLegal (input_with s specs (λ _. false) works []) (judges_of s) h
