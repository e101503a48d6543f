-- What `check` says of a journal that `journal` printed of the same run.
use Rattle.std.specs.Prelude.{◌≡◌, ◌⊎◌, ℕ, List, [], codes, Some}
use Rattle.rv_io.specs.Files.{Files}
use Rattle.rv_model.specs.declared.entry.Entry.{Entry}
use Rattle.rv_bind.specs.Outcomes.{IsReached, files_without}
use Rattle.rv_tool.specs.Calls.{Call, CallEnd, CountsNone}
use Rattle.rv_tool.specs.Checks.{IsCheckReport, checked_input}
use Rattle.rv_tool.specs.Headline.{PrintsText}
use Rattle.rv_tool.specs.Inputs.{InputValue, run_input}
use Rattle.rv_tool.specs.Journals.{IsJournalReport}
use Rattle.rv_tool.specs.Runs.{Answers, MayReportUnread}
use Rattle.rv_tool.specs.Words.{journal, check}

-- a law: where `journal` printed a text of an input, what `check` reports of this input and this text is `yes`, with status 0
abbrev pub PrintedIsYes : Type 0
PrintedIsYes = (i : InputValue) (h k : List Entry) (printed text : List ℕ) (said status : ℕ) → IsJournalReport i h printed said → IsCheckReport (record { input = i; journal = printed }) k text status → (text ≡ codes "yes\n") × (status ≡ 0)

-- ---- two calls

-- a sink that was empty took this text, and the status is one of a run
pub record HasPrinted (c : CallEnd) (printed : List ℕ) : Type 0 where
  pub empty : c.before.taken ≡ Some []
  pub took : c.after.taken ≡ Some printed
  pub of_run : (c.status ≡ 0) ⊎ (c.status ≡ 1) ⊎ (c.status ≡ 6)

-- later the name has the printed text, all other files are as they were, and the run reads no file of this name
pub record KeepsPrinted (files later : Files) (bindings trace name printed : List ℕ) : Type 0 where
  pub has : later name ≡ Some printed
  pub others : files_without name later ≡ files_without name files
  pub unread : ¬ IsReached (λ held. run_input held bindings trace) files name

-- a law: where `journal` printed a text and a name has it later, `check` says `yes` of this name, with status 0; or a read failed
abbrev pub PrintedIsJudgedYes : Type 0
PrintedIsJudgedYes = (files later : Files) (bindings trace name printed : List ℕ) (first second : Call) → Answers (Some (journal bindings trace)) files first → HasPrinted first.end printed → KeepsPrinted files later bindings trace name printed
    → Answers (Some (check bindings trace name)) later second → (CountsNone second × PrintsText (codes "yes\n") 0 second.end) ⊎ MayReportUnread (λ held. checked_input held bindings trace name) later second
