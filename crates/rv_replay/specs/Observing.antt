-- What an observer is told of a run, and what it makes of it.
use Rattle.std.specs.Prelude.{◌≡◌, ℕ, Bool, List, [], ◌∷◌, ◌++◌, reverse}
use Rattle.rv_model.specs.declared.entry.Entry.{Entry}
use Rattle.rv_model.specs.declared.formula.Spec.{Spec}
use Rattle.rv_model.specs.declared.record.Delivered.TheVariants.{Done}
use Rattle.rv_model.specs.declared.record.Record.{Record}
use Rattle.rv_model.specs.declared.record.Task.{Task}
use Rattle.rv_model.specs.Histories.{IsOneHistory, input_with}
use Rattle.rv_model.specs.Records.{records_of, sort_records}
use Rattle.rv_model.specs.Scripts.{hit_act}
use Rattle.rv_model.specs.Setups.{Setup, judge_of, monitor_of, slot_of}
use Rattle.rv_model.specs.SharedWords.{answer_at}
use Rattle.rv_model.specs.Works.{Work}
use Rattle.rv_core.specs.declared.phase.RowPhase.{RowPhase}
use Rattle.rv_core.specs.Core.{CoreValue}
use Rattle.rv_core.specs.Judged.{AllMean, JudgesBySpecs}
use Rattle.rv_core.specs.RowPhases.{phase_at, row_phase}
use Rattle.rv_core.specs.Setup.{judges_of, word_index}
use Rattle.rv_feed.specs.Runs.{IsRunBySpecs}
use Rattle.rv_route.specs.Listing.{ListedDelivery, works_listed}
use Rattle.rv_replay.specs.declared.walk.ObservedRun.{ObservedRun}

-- the machine made the delivery of this record, as the next entry of its history; the delivery's slot and what its
-- instance was doing before it are these
pub record MakesRecord (old new : CoreValue) (slot : ℕ) (before : RowPhase) (r : Record) : Type 0 where
  pub entry : Entry
  pub grows : new ≡ record old { history = old.history ++ entry ∷ [] }
  pub act_is : entry.act ≡ hit_act slot r.hit
  pub outcome_is : r.outcome ≡ Done (answer_at old.setup (judges_of old.setup) (reverse old.history) entry entry.act)
  pub slot_is : slot ≡ slot_of old.setup.shape r.monitor r.instance
  pub monitor_is : monitor_of old.setup.shape slot ≡ r.monitor
  pub before_is : before ≡ row_phase (judge_of old.setup (judges_of old.setup) slot) (phase_at old slot)

-- with these specifications, and judged by the tables, this is the one history of the works, and these are its records
pub record IsRunByTables (setup : Setup) (panics : ℕ → Bool) (works : List Work) (specs : List Spec) (rs : List Record) (history : List Entry) : Type 0 where
  pub is_one : IsOneHistory (input_with setup specs panics works []) (judges_of setup) history
  pub records_are : records_of (input_with setup specs panics works []) (judges_of setup) history ≡ rs

-- `observed tasks core rs o` says that `o` is what it has to be of the machine and the records of its deliveries
module _ {O : Type 0} (observed : List Task → CoreValue → List Record → O → Type 0) where
  -- what was observed up to the one value of the machine becomes what is observed with these records up to the other
  abbrev pub ObservesMore : List Record → CoreValue → CoreValue → O → O → Type 0
  ObservesMore more old new o o' = (tasks : List Task) (rs : List Record) → observed tasks old rs o → observed tasks new (rs ++ more) o'

  -- and so it does with the record of a delivery
  abbrev pub ObservesRecord : CoreValue → ℕ → RowPhase → Record → O → O → Type 0
  ObservesRecord new slot before r o o' = (old : CoreValue) → MakesRecord old new slot before r → ObservesMore (r ∷ []) old new o o'

  -- an entry on the switches is not observed
  abbrev pub IgnoresSwitches : Type 0
  IgnoresSwitches = (tasks : List Task) (core : CoreValue) (e : Entry) (rs : List Record) (o : O) → word_index e.act ≡ 0 → observed tasks core rs o → observed tasks (record core { history = core.history ++ e ∷ [] }) rs o

  -- by judges of the specifications, such as the tables, this is the one history of the works of the list, and it was
  -- observed with its records. The setup is as it was
  pub record RunsObserved (setup : Setup) (panics : ℕ → Bool) (list : List ListedDelivery) (o o' : O) (run : ObservedRun) : Type 0 where
    pub rs : List Record
    pub ascend : rs ≡ sort_records rs
    pub setup_is : run.setup ≡ setup
    pub judges : JudgesBySpecs setup
    pub is_run : IsRunBySpecs IsOneHistory setup panics (works_listed list) [] rs run.closed
    pub by_tables : (specs : List Spec) → AllMean specs setup.tables → IsRunByTables setup panics (works_listed list) specs rs run.closed
    pub observes : ObservesMore rs (record { setup = setup; history = [] }) (record { setup = setup; history = run.closed }) o o'
