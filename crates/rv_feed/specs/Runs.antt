-- What a run comes to, on one thread or at once.
use Rattle.std.specs.Prelude.{◌≡◌, ℕ, Bool, List}
use Rattle.rv_model.specs.declared.entry.Entry.{Entry}
use Rattle.rv_model.specs.declared.formula.Spec.{Spec}
use Rattle.rv_model.specs.declared.record.Record.{Record}
use Rattle.rv_model.specs.declared.work.Change.{Change}
use Rattle.rv_model.specs.Judging.{Judge}
use Rattle.rv_model.specs.Histories.{Input, input_with, AreJudges}
use Rattle.rv_model.specs.Records.{records_of, sort_records, status_of}
use Rattle.rv_model.specs.Setups.{Setup}
use Rattle.rv_model.specs.Works.{Work}
use Rattle.rv_core.specs.Judged.{AllMean}

-- there are judges of the specifications by which `Says` holds of the history, and `rs`, once they are sorted, are its
-- records, and give its status
pub record IsRunOf (Says : Input → List Judge → List Entry → Type 0) (input : Input) (rs : List Record) (h : List Entry) : Type 0 where
  pub judges : List Judge
  pub are_judges : AreJudges input.specs input.setup.tables judges
  pub history : Says input judges h
  pub records_are : records_of input judges h ≡ sort_records rs
  pub status_is : status_of (records_of input judges h) ≡ status_of rs

-- whatever specifications the tables mean, by judges of them this is said of the history of these works and changes, and these are its records
abbrev pub IsRunBySpecs : (Input → List Judge → List Entry → Type 0) → Setup → (ℕ → Bool) → List Work → List Change → List Record → List Entry → Type 0
IsRunBySpecs Says s panics works changes rs h = (specs : List Spec) → AllMean specs s.tables → IsRunOf Says (input_with s specs panics works changes) rs h
