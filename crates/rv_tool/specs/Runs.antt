-- What the top call answers on a store that tells its files.
use Rattle.std.specs.Prelude.{◌⊎◌, ℕ, List, Option, Some, None}
use Rattle.rv_text.specs.declared.numbers.TheConstants.{USAGE}
use Rattle.rv_io.specs.Files.{Files, Rose}
use Rattle.rv_bind.specs.Outcomes.{Outcome, IsReached}
use Rattle.rv_model.specs.Histories.{IsOneHistory, IsLegal}
use Rattle.rv_tool.specs.Calls.{Call, CountsNone}
use Rattle.rv_tool.specs.Changes.{input_beside}
use Rattle.rv_tool.specs.Checks.{Checks, checked_input}
use Rattle.rv_tool.specs.HeaderFiles.{header_in}
use Rattle.rv_tool.specs.Headline.{Ending, GivesUp, PrintsText, Reports, Ends}
use Rattle.rv_tool.specs.Inputs.{run_input}
use Rattle.rv_tool.specs.Journals.{Journals, recordable_input}
use Rattle.rv_tool.specs.Loads.{EndsAsLoad}
use Rattle.rv_tool.specs.Output.{refusal_text, missing_text}
use Rattle.rv_tool.specs.Sessions.{Printed, control_in}
use Rattle.rv_tool.specs.Tables.{table_in}
use Rattle.rv_tool.specs.Watched.{watched_input}
use Rattle.rv_tool.specs.WatchReports.{Watches}
use Rattle.rv_tool.specs.Words.{CommandValue, replay, feed, feed_beside, journal, check, watch, table, header, control, load}

-- this text is printed, with status 0
abbrev pub Prints : List ℕ → Ending
Prints text = PrintsText text 0

-- the texts of a script's commands are printed
abbrev pub PrintsSession : Printed → Ending
PrintsSession p = PrintsText p.text p.status

-- the store's count of faults rose, and a file that the reading comes to is said to be unread; or memory ran out
abbrev pub MayReportUnread : {Y : Type 0} → (Files → Outcome Y) → Files → Call → Type 0
MayReportUnread outcome files c = Rose c.faults_before c.faults_after × (((file : List ℕ) × IsReached outcome files file × PrintsText (missing_text file) 3 c.end) ⊎ GivesUp c.end)

-- what the files come to on a store that tells them, where no read failed
abbrev pub AnswersBy : {Y : Type 0} → (Y → Ending) → (Files → Outcome Y) → Files → Call → Type 0
AnswersBy Accepted outcome files c = (CountsNone c × Ends Accepted (outcome files) c.end) ⊎ MayReportUnread outcome files c

-- by what the words ask for, where words that are no command and the generated input read no file: on one thread there is the one history of the input, and on several a legal one
abbrev pub Answers : Option CommandValue → Files → Call → Type 0
Answers None files c = CountsNone c × PrintsText (refusal_text None (record { number = USAGE; line = 0 })) 2 c.end
Answers (Some (replay bindings trace)) files c = AnswersBy (Reports IsOneHistory) (λ files. run_input files bindings trace) files c
Answers (Some (feed bindings trace)) files c = AnswersBy (Reports IsLegal) (λ files. run_input files bindings trace) files c
Answers (Some (feed_beside bindings trace script)) files c = AnswersBy (Reports IsLegal) (λ files. input_beside files bindings trace script) files c
Answers (Some (watch bindings trace monitor instance)) files c = AnswersBy Watches (λ files. watched_input files bindings trace monitor instance) files c
Answers (Some (journal bindings trace)) files c = AnswersBy Journals (λ files. recordable_input files bindings trace) files c
Answers (Some (check bindings trace judged)) files c = AnswersBy Checks (λ files. checked_input files bindings trace judged) files c
Answers (Some (load blocks)) files c = CountsNone c × EndsAsLoad (Reports IsLegal) blocks c.end
Answers (Some (table kind file)) files c = AnswersBy Prints (λ files. table_in files kind file) files c
Answers (Some (header name file)) files c = AnswersBy Prints (λ files. header_in files name file) files c
Answers (Some (control bindings script)) files c = AnswersBy PrintsSession (λ files. control_in files bindings script) files c
