-- What `journal` prints of a run: the journal of a legal history of it.
use Rattle.std.specs.List.{list_any}
use Rattle.std.specs.Prelude.{◌≡◌, ℕ, Bool, ◌&&◌, not, List, All, Result, Ok, if◌then◌else◌}
use Rattle.rv_text.specs.declared.refusals.Refusal.{Refusal}
use Rattle.rv_text.specs.Readings.{refused_with}
use Rattle.rv_io.specs.Files.{Files}
use Rattle.rv_model.specs.declared.entry.Entry.{Entry}
use Rattle.rv_model.specs.Histories.{IsLegal, AreJudges}
use Rattle.rv_model.specs.Judging.{Judge}
use Rattle.rv_model.specs.Records.{records_of, status_of}
use Rattle.rv_model.specs.Scripts.{is_end}
use Rattle.rv_bind.specs.Outcomes.{Outcome, reading, of_file}
use Rattle.rv_bind.specs.Values.{OnValue}
use Rattle.rv_journal.specs.EntryTexts.{journal_of, IsEntry}
use Rattle.rv_text.specs.declared.numbers.TheConstants.{NOT_NUMBERED}
use Rattle.rv_tool.specs.Headline.{Ending, PrintsSome}
use Rattle.rv_tool.specs.Inputs.{InputValue, run_input, run_of}
use Rattle.rv_tool.specs.CountsFit.{monitors_fit_counts}

-- ---- which runs are recorded

-- the rule ends the instances of its monitor
abbrev pub ends_instances : OnValue → Bool
ends_instances r = is_end r.hit.mode

-- the monitors are narrow, and no rule ends an instance
abbrev pub can_record : InputValue → Bool
can_record i = monitors_fit_counts i.bound.monitors i.bound.tables && not (list_any ends_instances i.bound.rules)

-- the input, where it can be recorded, or the refusal
abbrev pub if_recordable : InputValue → Result InputValue Refusal
if_recordable i = if can_record i then Ok i else refused_with NOT_NUMBERED

-- the bindings and the trace, and then whether the bindings' monitors can be numbered
abbrev pub recordable_input : Files → List ℕ → List ℕ → Outcome InputValue
recordable_input files bindings trace = reading (run_input files bindings trace) (λ input. of_file bindings (if_recordable input))

-- ---- how it ends

-- by judges of the specifications this is a legal history of the input, the text its journal, and the status that of its records
pub record IsJournalReport (i : InputValue) (h : List Entry) (text : List ℕ) (status : ℕ) : Type 0 where
  pub judges : List Judge
  pub are_judges : AreJudges (run_of i).specs (run_of i).setup.tables judges
  pub history : IsLegal (run_of i) judges h
  pub entries : All IsEntry h
  pub text_is : text ≡ journal_of h
  pub status_is : status ≡ status_of (records_of (run_of i) judges h)

-- an accepted input is run and recorded
abbrev pub Journals : InputValue → Ending
Journals i = PrintsSome (IsJournalReport i)
