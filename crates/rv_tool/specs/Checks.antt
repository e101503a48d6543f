-- What `check` says of a journal.
use Rattle.std.specs.Prelude.{◌≡◌, ℕ, List, [], ◌++◌, codes, decimal, map}
use Rattle.rv_io.specs.Files.{Files}
use Rattle.rv_model.specs.declared.entry.Entry.{Entry}
use Rattle.rv_model.specs.Histories.{input_with, AreJudges}
use Rattle.rv_model.specs.Numbers.{has_bit, number_of}
use Rattle.rv_core.specs.Setup.{judges_of}
use Rattle.rv_feed.specs.Lane.{panics_of}
use Rattle.rv_bind.specs.Outcomes.{Outcome, accepted, reading, of_text}
use Rattle.rv_check.specs.declared.reading.Verdict.{Verdict}
use Rattle.rv_check.specs.declared.reading.Verdict.TheVariants.{Yes, No}
use Rattle.rv_check.specs.Verdicts.{Journal, VerdictHolds}
use Rattle.rv_tool.specs.Headline.{Ending, PrintsSome}
use Rattle.rv_tool.specs.Inputs.{InputValue, run_input, run_of}

-- a run, and the text of a journal
pub record CheckedValue : Type 0 where
  pub input : InputValue
  pub journal : List ℕ

-- the bindings and the trace, and then the journal, of which no text is refused
abbrev pub checked_input : Files → List ℕ → List ℕ → List ℕ → Outcome CheckedValue
checked_input files bindings trace journal = reading (run_input files bindings trace) (λ input. of_text journal (files journal) (λ text. accepted (record { input = input; journal = text })))

-- ---- the verdict

-- a bit for each monitor whose reactor is panic
abbrev pub panic_bits : InputValue → ℕ
panic_bits i = number_of (panics_of (map (λ m. m.reactor) i.bound.monitors)) 32

-- the journal of a run, as it is judged
abbrev pub judged : InputValue → List ℕ → Journal
judged i text = record { setup = (run_of i).setup; panics = panic_bits i; works = (run_of i).works; text = text }

-- the tables are judges of the specifications; what is judged is the run; and the verdict holds of the journal
pub record IsJudged (c : CheckedValue) (verdict : Verdict) : Type 0 where
  pub are_judges : AreJudges (run_of c.input).specs (run_of c.input).setup.tables (judges_of (run_of c.input).setup)
  pub is_run : input_with (run_of c.input).setup (run_of c.input).specs (has_bit (panic_bits c.input)) (run_of c.input).works [] ≡ run_of c.input
  pub holds : VerdictHolds (judged c.input c.journal) (run_of c.input).specs verdict

-- `yes`, or `no` with the line that decides it
abbrev pub verdict_text : Verdict → List ℕ
verdict_text Yes = codes "yes\n"
verdict_text (No line) = codes "no: line " ++ decimal line ++ codes "\n"

-- 0 for yes, and 1 for no
abbrev pub verdict_status : Verdict → ℕ
verdict_status Yes = 0
verdict_status (No line) = 1

-- ---- how it ends

-- the text and the status are those of a verdict that holds, and there is no history
pub record IsCheckReport (c : CheckedValue) (h : List Entry) (text : List ℕ) (status : ℕ) : Type 0 where
  pub verdict : Verdict
  pub judged : IsJudged c verdict
  pub text_is : text ≡ verdict_text verdict
  pub status_is : status ≡ verdict_status verdict
  pub no_history : h ≡ []

-- an accepted journal is judged by its run
abbrev pub Checks : CheckedValue → Ending
Checks c = PrintsSome (IsCheckReport c)
