-- What the top call answers on a store that does not tell its files, as where they change while they are read.
use Rattle.std.specs.Prelude.{◌⊎◌, Option, Some, None}
use Rattle.rv_text.specs.declared.numbers.TheConstants.{USAGE}
use Rattle.rv_io.specs.Files.{Rose}
use Rattle.rv_bind.specs.Outcomes.{Outcome, accepted, refused, missing, MayRise}
use Rattle.rv_model.specs.Histories.{IsLegal}
use Rattle.rv_tool.specs.Calls.{Call, CountsNone}
use Rattle.rv_tool.specs.Checks.{Checks}
use Rattle.rv_tool.specs.Headline.{Ending, GivesUp, PrintsText, Reports, Ends}
use Rattle.rv_tool.specs.Loads.{EndsAsLoad}
use Rattle.rv_tool.specs.Output.{refusal_text}
use Rattle.rv_tool.specs.Possible.{MayInput, MayRunBeside, MayWatch, MayRecord, MayCheck, MayTable, MayHeader, MayControl}
use Rattle.rv_tool.specs.Runs.{Prints, PrintsSession}
use Rattle.rv_tool.specs.Verdicts.{ReportsOne, ReportsVerdicts, ReportsWatchVerdicts, ReportsJournalVerdicts, ReportsLoad}
use Rattle.rv_tool.specs.Words.{CommandValue, replay, feed, feed_beside, journal, check, watch, table, header, control, load}

-- a file that is missing was counted as a fault, and nothing else was
abbrev pub IsCounted : {Y : Type 0} → Outcome Y → Call → Type 0
IsCounted (accepted y) c = CountsNone c
IsCounted (refused file refusal) c = CountsNone c
IsCounted (missing file) c = Rose c.faults_before c.faults_after

-- it ends by an outcome to which the words may come: what is accepted ends in its own way, and else its refusal or its missing file is said; or memory ran out, and at most one read failed
abbrev pub EndsOnSome : {Y : Type 0} → (Outcome Y → Type 0) → (Y → Ending) → Call → Type 0
EndsOnSome {Y} May Accepted c = ((o : Outcome Y) × May o × IsCounted o c × Ends Accepted o c.end) ⊎ (MayRise c.faults_before c.faults_after × GivesUp c.end)

-- by what the words ask for: it ends as on a store that tells its files, by what some text of each file that is read comes to, one for each time; words that are no command and the generated input are answered as on any store
abbrev pub AnswersOpaque : Option CommandValue → Call → Type 0
AnswersOpaque None c = CountsNone c × PrintsText (refusal_text None (record { number = USAGE; line = 0 })) 2 c.end
AnswersOpaque (Some (replay bindings trace)) c = EndsOnSome (MayInput bindings trace) ReportsOne c
AnswersOpaque (Some (feed bindings trace)) c = EndsOnSome (MayInput bindings trace) ReportsVerdicts c
AnswersOpaque (Some (feed_beside bindings trace script)) c = EndsOnSome (MayRunBeside bindings trace script) (Reports IsLegal) c
AnswersOpaque (Some (watch bindings trace monitor instance)) c = EndsOnSome (MayWatch bindings trace monitor instance) ReportsWatchVerdicts c
AnswersOpaque (Some (journal bindings trace)) c = EndsOnSome (MayRecord bindings trace) ReportsJournalVerdicts c
AnswersOpaque (Some (check bindings trace judged)) c = EndsOnSome (MayCheck bindings trace judged) Checks c
AnswersOpaque (Some (load blocks)) c = CountsNone c × EndsAsLoad ReportsLoad blocks c.end
AnswersOpaque (Some (table kind file)) c = EndsOnSome (MayTable kind file) Prints c
AnswersOpaque (Some (header name file)) c = EndsOnSome (MayHeader name file) Prints c
AnswersOpaque (Some (control bindings script)) c = EndsOnSome (MayControl bindings script) PrintsSession c
