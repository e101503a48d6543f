-- A whole history of a recorded run.
use Rattle.std.specs.Prelude.{false, List, [], All}
use Rattle.rv_model.specs.declared.entry.Entry.{Entry}
use Rattle.rv_model.specs.Histories.{input_with, IsLegal}
use Rattle.rv_model.specs.Setups.{Setup}
use Rattle.rv_model.specs.Works.{Work}
use Rattle.rv_core.specs.Setup.{IsSetup, judges_of}
use Rattle.rv_journal.specs.Running.{FitsCountedWork}

-- the history is a legal one of the works, which fit the setup's counted words, with no reactor that is panic and no
-- changes
pub record IsWholeRun (s : Setup) (works : List Work) (h : List Entry) : Type 0 where
  pub is_setup : IsSetup s
  pub fit : All (FitsCountedWork s) works
  pub legal : IsLegal (input_with s [] (λ _. false) works []) (judges_of s) h
