-- What a command comes to before it is put.
use Rattle.std.specs.Prelude.{◌≡◌, ℕ, List, [], codes, Option, Some, Result, Ok, Err}
use Rattle.std.specs.declared.alloc.AllocError.{AllocError}
use Rattle.rv_io.specs.Files.{Files}
use Rattle.rv_model.specs.declared.entry.Entry.{Entry}
use Rattle.rv_model.specs.Histories.{IsOneHistory, IsLegal}
use Rattle.rv_bind.specs.declared.fault.BindFault.{BindFault}
use Rattle.rv_bind.specs.declared.fault.BindFault.TheVariants as faults
use Rattle.rv_bind.specs.FilePieces.{FaultRefines, FaultBlamesReached}
use Rattle.rv_bind.specs.Outcomes.{Outcome, accepted}
use Rattle.rv_bind.specs.Possible.{MayFault}
use Rattle.rv_tool.specs.declared.replay.FinishedRun.{FinishedRun}
use Rattle.rv_tool.specs.Changes.{input_beside}
use Rattle.rv_tool.specs.Checks.{IsCheckReport, checked_input}
use Rattle.rv_tool.specs.HeaderFiles.{header_in}
use Rattle.rv_tool.specs.Headline.{IsReported}
use Rattle.rv_tool.specs.Inputs.{InputValue, run_input}
use Rattle.rv_tool.specs.Journals.{IsJournalReport, recordable_input}
use Rattle.rv_tool.specs.Loaded.{generated_files}
use Rattle.rv_tool.specs.Possible.{MayInput, MayRunBeside, MayWatch, MayRecord, MayCheck, MayTable, MayHeader, MayControl}
use Rattle.rv_tool.specs.Sessions.{Printed, control_in}
use Rattle.rv_tool.specs.Tables.{table_in}
use Rattle.rv_tool.specs.Verdicts.{HasOneVerdict, HasRunVerdicts, HasVerdicts}
use Rattle.rv_tool.specs.Watched.{WatchValue, watched_input}
use Rattle.rv_tool.specs.WatchReports.{IsWatchReport}
use Rattle.rv_tool.specs.Words.{CommandValue, replay, feed, feed_beside, journal, check, watch, table, header, control, load}

-- ---- what goes with a history, a text and a status

-- the report of the one history, with its verdict
abbrev pub IsOneReport : InputValue → List Entry → List ℕ → ℕ → Type 0
IsOneReport i h text status = IsReported IsOneHistory i h text status × HasOneVerdict i h text status

-- the report of a legal history, with its verdicts
abbrev pub IsVerdictReport : InputValue → List Entry → List ℕ → ℕ → Type 0
IsVerdictReport i h text status = IsReported IsLegal i h text status × HasVerdicts i h text status

-- the report of a watched run, with the verdicts of the part in front of the words
abbrev pub IsWatchVerdictReport : WatchValue → List Entry → List ℕ → ℕ → Type 0
IsWatchVerdictReport w h text status = (is : IsWatchReport w h text status) × HasVerdicts w.input h is.report status

-- the journal of a legal history, with the verdicts that speak of no text
abbrev pub IsJournalVerdictReport : InputValue → List Entry → List ℕ → ℕ → Type 0
IsJournalVerdictReport i h text status = IsJournalReport i h text status × HasRunVerdicts i h status

-- this text and this status, and no history
abbrev pub IsText : List ℕ → ℕ → List Entry → List ℕ → ℕ → Type 0
IsText told said h text status = (text ≡ told) × (status ≡ said) × (h ≡ [])

-- this text is printed
abbrev pub IsPrinted : List ℕ → List Entry → List ℕ → ℕ → Type 0
IsPrinted told h text status = IsText told 0 h text status

-- the text and the status of the session
abbrev pub IsSessionText : Printed → List Entry → List ℕ → ℕ → Type 0
IsSessionText p h text status = IsText p.text p.status h text status

-- ---- what a command comes to

-- what was done goes with what the files come to, where the store tells them, and with what may come on any store; or a fault is that of the files, and of an outcome that may come
abbrev pub ComesTo : {Y : Type 0} → (Outcome Y → Type 0) → (Y → List Entry → List ℕ → ℕ → Type 0) → (Files → Outcome Y) → Option Files → ℕ → ℕ → Result FinishedRun BindFault → Type 0
ComesTo {Y} May Goes outcome told before now (Ok done) =
    ((files : Files) → told ≡ Some files → (y : Y) × (outcome files ≡ accepted y) × Goes y done.closed done.text.items done.status)
    × ((y : Y) × May (accepted y) × Goes y done.closed done.text.items done.status)
ComesTo May Goes outcome told before now (Err fault) = FaultRefines told before now fault outcome × FaultBlamesReached told fault outcome × MayFault fault May

-- by what the words ask for; the generated input is read from a store of its own, and nothing from the given one
abbrev pub CommandComes : CommandValue → Option Files → ℕ → ℕ → Result FinishedRun BindFault → Type 0
CommandComes (replay bindings trace) = ComesTo (MayInput bindings trace) IsOneReport (λ files. run_input files bindings trace)
CommandComes (feed bindings trace) = ComesTo (MayInput bindings trace) IsVerdictReport (λ files. run_input files bindings trace)
CommandComes (feed_beside bindings trace script) = ComesTo (MayRunBeside bindings trace script) (IsReported IsLegal) (λ files. input_beside files bindings trace script)
CommandComes (watch bindings trace monitor instance) = ComesTo (MayWatch bindings trace monitor instance) IsWatchVerdictReport (λ files. watched_input files bindings trace monitor instance)
CommandComes (journal bindings trace) = ComesTo (MayRecord bindings trace) IsJournalVerdictReport (λ files. recordable_input files bindings trace)
CommandComes (check bindings trace judged) = ComesTo (MayCheck bindings trace judged) IsCheckReport (λ files. checked_input files bindings trace judged)
CommandComes (load blocks) = λ told before now result. (now ≡ before) × ComesTo (MayInput (codes "gen.rv") (codes "gen.txt")) IsVerdictReport (λ files. run_input files (codes "gen.rv") (codes "gen.txt")) (Some (generated_files blocks)) 0 0 result
CommandComes (table kind file) = ComesTo (MayTable kind file) IsPrinted (λ files. table_in files kind file)
CommandComes (header name file) = ComesTo (MayHeader name file) IsPrinted (λ files. header_in files name file)
CommandComes (control bindings script) = ComesTo (MayControl bindings script) IsSessionText (λ files. control_in files bindings script)

-- it is what was done, or its want of memory as a fault
abbrev pub IsFinished : Result FinishedRun AllocError → Result FinishedRun BindFault → Type 0
IsFinished (Ok done) result = result ≡ Ok done
IsFinished (Err none) result = result ≡ Err faults.Memory
