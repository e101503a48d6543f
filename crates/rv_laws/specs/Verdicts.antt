-- What is told of a slot that only one CPU's deliveries are for: what one thread tells of it.
use Rattle.std.specs.Prelude.{◌≡◌, ℕ, Bool, false, ◌==◌, ◌&&◌, List, [], filter}
use Rattle.rv_model.specs.declared.entry.Entry.{Entry}
use Rattle.rv_model.specs.declared.record.Record.{Record}
use Rattle.rv_model.specs.Histories.{Input, IsLegal, IsOneHistory, AreJudges}
use Rattle.rv_model.specs.Judging.{Judge}
use Rattle.rv_model.specs.Records.{records_of}
use Rattle.rv_model.specs.Setups.{slot_of}
use Rattle.rv_laws.specs.SingleWriter.{HasOneWriter}

-- nothing changes the switches: there is no change, and no monitor's reactor is panic
pub record IsSteady (input : Input) : Type 0 where
  pub no_changes : input.changes ≡ []
  pub no_panics : (monitor : ℕ) → input.panics monitor ≡ false

-- the record is of this instance of this monitor
abbrev pub is_of_instance : ℕ → ℕ → Record → Bool
is_of_instance monitor instance r = (r.monitor == monitor) && (r.instance == instance)

-- the records of an instance
abbrev pub records_on : ℕ → ℕ → List Record → List Record
records_on monitor instance rs = filter (is_of_instance monitor instance) rs

-- two histories of an input, each by judges of its specifications
pub record AreHistories (Is : Input → List Judge → List Entry → Type 0) (input : Input) (js ks : List Judge) (h k : List Entry) : Type 0 where
  pub judges : AreJudges input.specs input.setup.tables js
  pub other_judges : AreJudges input.specs input.setup.tables ks
  pub history : IsLegal input js h
  pub other : Is input ks k

-- on each lone slot the histories have the same records
abbrev pub AgreeOnSingleWriter : Input → List Judge → List Judge → List Entry → List Entry → Type 0
AgreeOnSingleWriter input js ks h k = (monitor instance : ℕ) → HasOneWriter input.setup.shape input.works (slot_of input.setup.shape monitor instance) → records_on monitor instance (records_of input js h) ≡ records_on monitor instance (records_of input ks k)

-- a law: nothing that CPUs do at once changes the records of a lone slot
abbrev pub SingleWriterRecordsAgree : Type 0
SingleWriterRecordsAgree = (input : Input) (js ks : List Judge) (h k : List Entry) → IsSteady input → AreHistories IsLegal input js ks h k → AgreeOnSingleWriter input js ks h k

-- a law: where all slots are lone, all histories have the same records
abbrev pub AllRecordsAgree : Type 0
AllRecordsAgree = (input : Input) (js ks : List Judge) (h k : List Entry) → IsSteady input → AreHistories IsLegal input js ks h k → ((slot : ℕ) → HasOneWriter input.setup.shape input.works slot) → records_of input js h ≡ records_of input ks k

-- a law: the records of a lone slot are those of one thread
abbrev pub SingleWriterRecordsAreOne : Type 0
SingleWriterRecordsAreOne = (input : Input) (js ks : List Judge) (h k : List Entry) → IsSteady input → AreHistories IsOneHistory input js ks h k → AgreeOnSingleWriter input js ks h k

-- a law: where all slots are lone, the records are those of one thread
abbrev pub AllRecordsAreOne : Type 0
AllRecordsAreOne = (input : Input) (js ks : List Judge) (h k : List Entry) → IsSteady input → AreHistories IsOneHistory input js ks h k → ((slot : ℕ) → HasOneWriter input.setup.shape input.works slot) → records_of input js h ≡ records_of input ks k
