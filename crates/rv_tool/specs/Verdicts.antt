-- What is told of a history: on one thread that the input determines it, and of a run on several what one thread tells of slots that only one CPU has deliveries for.
use Rattle.std.specs.Prelude.{◌≡◌, ◌≢◌, ◌<◌, ◌⊎◌, ℕ, false, List, Option, Some, All}
use Rattle.rv_io.specs.Files.{Files}
use Rattle.rv_model.specs.declared.entry.Act.TheVariants.{Stop}
use Rattle.rv_model.specs.declared.entry.Entry.{Entry}
use Rattle.rv_model.specs.declared.work.Scope.TheVariants.{Cpu}
use Rattle.rv_model.specs.Cuts.{AtEach}
use Rattle.rv_model.specs.Histories.{IsLegal, IsNoStop, IsOneHistory, AreJudges}
use Rattle.rv_model.specs.Judging.{Judge}
use Rattle.rv_model.specs.Reactors.{is_panic}
use Rattle.rv_model.specs.Records.{records_of}
use Rattle.rv_model.specs.Setups.{slot_of}
use Rattle.rv_slots.specs.declared.shape.TheConstants.{CPUS}
use Rattle.rv_laws.specs.SingleWriter.{HasOneWriter, IsByCpu}
use Rattle.rv_laws.specs.Verdicts.{AgreeOnSingleWriter, records_on}
use Rattle.rv_tool.specs.Calls.{Call, CountsNone}
use Rattle.rv_tool.specs.Headline.{Ending, IsReported, PrintsSome}
use Rattle.rv_tool.specs.Inputs.{InputValue, run_input, run_of, HasCpus}
use Rattle.rv_tool.specs.Journals.{IsJournalReport, recordable_input}
use Rattle.rv_tool.specs.Loads.{EndsAsLoad}
use Rattle.rv_tool.specs.Runs.{AnswersBy}
use Rattle.rv_tool.specs.Watched.{WatchValue, watched_input}
use Rattle.rv_tool.specs.WatchReports.{IsWatchReport}
use Rattle.rv_tool.specs.Words.{CommandValue, replay, feed, watch, journal, load}

-- only one CPU has deliveries for the slot
abbrev pub HasOneWriterIn : InputValue → ℕ → Type 0
HasOneWriterIn i slot = HasOneWriter (run_of i).setup.shape (run_of i).works slot

-- no monitor's reactor is panic
abbrev pub HasNoPanic : InputValue → Type 0
HasNoPanic i = All (λ m. is_panic m.reactor ≡ false) i.bound.monitors

-- ---- monitors by CPU

-- all monitors are by CPU
abbrev pub AllHaveCpus : InputValue → Type 0
AllHaveCpus i = All (λ m. m.scope ≡ Cpu) i.bound.monitors

-- a CPU delivers to its own instance alone of a monitor by CPU; such an instance is never stopped, and without panic its records are those of one thread; where all monitors are by CPU the status is not 6, and without panic it is that of one thread
pub record HasCpuVerdicts (i : InputValue) (h : List Entry) (status : ℕ) : Type 0 where
  pub own : (monitor : ℕ) → HasCpus i.bound.monitors monitor → IsByCpu (run_of i).works monitor
  pub not_stopped : (monitor cpu : ℕ) → HasCpus i.bound.monitors monitor → cpu < CPUS → AtEach (λ before e. ¬ (e.act ≡ Stop (slot_of (run_of i).setup.shape monitor cpu))) h
  pub not_six : AllHaveCpus i → status ≢ 6
  pub each : HasNoPanic i → (judges : List Judge) (k : List Entry) → AreJudges (run_of i).specs (run_of i).setup.tables judges → IsOneHistory (run_of i) judges k
      → (monitor cpu : ℕ) → HasCpus i.bound.monitors monitor → cpu < CPUS → records_on monitor cpu (records_of (run_of i) judges h) ≡ records_on monitor cpu (records_of (run_of i) judges k)
  pub status_is : HasNoPanic i → AllHaveCpus i → (k : List Entry) (other : List ℕ) (said : ℕ) → IsReported IsOneHistory i k other said → status ≡ said

-- ---- one thread

-- nothing is stopped, so the status is not 6; and no other history of one thread, text or status is one of the input
pub record HasOneVerdict (i : InputValue) (h : List Entry) (text : List ℕ) (status : ℕ) : Type 0 where
  pub no_stop : AtEach (λ before e. IsNoStop e.act) h
  pub not_six : status ≢ 6
  pub only : (k : List Entry) (other : List ℕ) (said : ℕ) → IsReported IsOneHistory i k other said → (h ≡ k) × (text ≡ other) × (status ≡ said)

-- a run on one thread is reported, and has this verdict
abbrev pub ReportsOne : InputValue → Ending
ReportsOne i = PrintsSome (λ h text status. IsReported IsOneHistory i h text status × HasOneVerdict i h text status)

-- ---- several threads

-- the input has a history of one thread, with its text and its status; a slot that one CPU alone delivers to is never stopped, and without panic its records are those of one thread; where all slots are such the status is not 6, and without panic it is that of one thread
pub record HasRunVerdicts (i : InputValue) (h : List Entry) (status : ℕ) : Type 0 where
  pub one : (k : List Entry) × (other : List ℕ) × (said : ℕ) × IsReported IsOneHistory i k other said
  pub not_stopped : (slot : ℕ) → HasOneWriterIn i slot → AtEach (λ before e. ¬ (e.act ≡ Stop slot)) h
  pub not_six : ((slot : ℕ) → HasOneWriterIn i slot) → status ≢ 6
  pub single_writer : HasNoPanic i → (judges : List Judge) (k : List Entry) → AreJudges (run_of i).specs (run_of i).setup.tables judges → IsOneHistory (run_of i) judges k → AgreeOnSingleWriter (run_of i) judges judges h k
  pub status_is : HasNoPanic i → ((slot : ℕ) → HasOneWriterIn i slot) → (k : List Entry) (other : List ℕ) (said : ℕ) → IsReported IsOneHistory i k other said → status ≡ said
  pub by_cpu : HasCpuVerdicts i h status

-- the same, and without panic, where all slots are such or all monitors are by CPU, the text of the report too is that of one thread
pub record HasVerdicts (i : InputValue) (h : List Entry) (text : List ℕ) (status : ℕ) : Type 0 where
  pub run : HasRunVerdicts i h status
  pub text_is : HasNoPanic i → ((slot : ℕ) → HasOneWriterIn i slot) → (k : List Entry) (other : List ℕ) (said : ℕ) → IsReported IsOneHistory i k other said → text ≡ other
  pub text_by_cpu : HasNoPanic i → AllHaveCpus i → (k : List Entry) (other : List ℕ) (said : ℕ) → IsReported IsOneHistory i k other said → text ≡ other

-- a run on several threads is reported, and has these verdicts
abbrev pub ReportsVerdicts : InputValue → Ending
ReportsVerdicts i = PrintsSome (λ h text status. IsReported IsLegal i h text status × HasVerdicts i h text status)

-- a watched run is told of, and the part of its text in front of the words is a report that has these verdicts
abbrev pub ReportsWatchVerdicts : WatchValue → Ending
ReportsWatchVerdicts w = PrintsSome (λ h text status. (is : IsWatchReport w h text status) × HasVerdicts w.input h is.report status)

-- a recorded run is told of by its journal, and its history and its status have these verdicts, which speak of no text
abbrev pub ReportsJournalVerdicts : InputValue → Ending
ReportsJournalVerdicts i = PrintsSome (λ h text status. IsJournalReport i h text status × HasRunVerdicts i h status)

-- ---- the generated input

-- nothing is stopped, the status is 0 or 1, and the text and the status are those of one thread
pub record HasLoadVerdict (i : InputValue) (h : List Entry) (text : List ℕ) (status : ℕ) : Type 0 where
  pub no_stop : AtEach (λ before e. IsNoStop e.act) h
  pub said : (status ≡ 0) ⊎ (status ≡ 1)
  pub alike : (k : List Entry) (other : List ℕ) (said : ℕ) → IsReported IsOneHistory i k other said → (text ≡ other) × (status ≡ said)

-- a run of the generated input is reported, and has this verdict beside those of any run
abbrev pub ReportsLoad : InputValue → Ending
ReportsLoad i = PrintsSome (λ h text status. IsReported IsLegal i h text status × HasVerdicts i h text status × HasLoadVerdict i h text status)

-- ---- all of them

-- what `replay`, `feed`, `watch`, `journal` and `load` answer besides; of other commands nothing is said here
abbrev pub Verdicts : Option CommandValue → Files → Call → Type 0
Verdicts (Some (replay bindings trace)) files c = AnswersBy ReportsOne (λ files. run_input files bindings trace) files c
Verdicts (Some (feed bindings trace)) files c = AnswersBy ReportsVerdicts (λ files. run_input files bindings trace) files c
Verdicts (Some (watch bindings trace monitor instance)) files c = AnswersBy ReportsWatchVerdicts (λ files. watched_input files bindings trace monitor instance) files c
Verdicts (Some (journal bindings trace)) files c = AnswersBy ReportsJournalVerdicts (λ files. recordable_input files bindings trace) files c
Verdicts (Some (load blocks)) files c = CountsNone c × EndsAsLoad ReportsLoad blocks c.end
Verdicts _ files c = Unit {0}
