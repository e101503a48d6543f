-- What the top call promises: what it puts and its status are the report of one history of the run that the words and files describe, or say why there is none.
use Rattle.std.specs.Prelude.{◌≡◌, ◌⊎◌, ℕ, List, [], map, Some}
use Rattle.rv_text.specs.declared.refusals.Refusal.{Refusal}
use Rattle.rv_model.specs.declared.entry.Entry.{Entry}
use Rattle.rv_model.specs.Judging.{Judge}
use Rattle.rv_model.specs.Histories.{Input, AreJudges}
use Rattle.rv_model.specs.Records.{records_of, status_of}
use Rattle.rv_model.specs.Reports.{report_text}
use Rattle.rv_report.specs.Reported.{reported}
use Rattle.rv_bind.specs.Outcomes.{Outcome, accepted, refused, missing, IsRefusal}
use Rattle.rv_tool.specs.Calls.{CallEnd}
use Rattle.rv_tool.specs.Inputs.{InputValue, run_of}
use Rattle.rv_tool.specs.Output.{IsWritten, refusal_text, missing_text}

-- which histories an input may have, by judges of its specifications: `IsOneHistory` on one thread, `IsLegal` on several
abbrev pub Histories : Type 1
Histories = Input → List Judge → List Entry → Type 0

-- by some judges of the specifications this is such a history of the input, the text is its report, and the status that of its records
pub record IsReported (Is : Histories) (i : InputValue) (h : List Entry) (text : List ℕ) (status : ℕ) : Type 0 where
  pub judges : List Judge
  pub are_judges : AreJudges (run_of i).specs (run_of i).setup.tables judges
  pub history : Is (run_of i) judges h
  pub text_is : text ≡ report_text (map (reported i.bound.containers) i.bound.monitors) i.routed.tasks (records_of (run_of i) judges h)
  pub status_is : status ≡ status_of (records_of (run_of i) judges h)

-- how a call may end
abbrev pub Ending : Type 1
Ending = CallEnd → Type 0

-- want of memory: the sink was not touched, and there is no history
abbrev pub GivesUp : Ending
GivesUp c = (c.status ≡ 5) × (c.after ≡ c.before) × (c.history ≡ [])

-- without a run a text goes with the status, and there is no history; or memory ran out
abbrev pub PrintsText : List ℕ → ℕ → Ending
PrintsText text said c = (IsWritten c.before c.after text said c.status × (c.history ≡ [])) ⊎ GivesUp c

-- there is a text that goes with a status and the history, and it was put; or memory ran out
abbrev pub PrintsSome : (List Entry → List ℕ → ℕ → Type 0) → Ending
PrintsSome Goes c = ((text : List ℕ) × (said : ℕ) × Goes c.history text said × IsWritten c.before c.after text said c.status) ⊎ GivesUp c

-- the report of such a history of the input is put
abbrev pub Reports : Histories → InputValue → Ending
Reports Is i = PrintsSome (IsReported Is i)

-- a refusal of a file is said, by one of the refusals' numbers; or memory ran out
abbrev pub PrintsRefusal : List ℕ → Refusal → Ending
PrintsRefusal file refusal c = (IsRefusal refusal × IsWritten c.before c.after (refusal_text (Some file) refusal) 2 c.status × (c.history ≡ [])) ⊎ GivesUp c

-- by what the words and files come to: what is accepted ends in its own way, and else the refusal or the missing file is said
abbrev pub Ends : {Y : Type 0} → (Y → Ending) → Outcome Y → Ending
Ends Accepted (accepted y) = Accepted y
Ends Accepted (refused file refusal) = PrintsRefusal file refusal
Ends Accepted (missing file) = PrintsText (missing_text file) 3
