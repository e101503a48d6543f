-- From what a command comes to, and how that is put, to what the top call answers.
use Rattle.std.proofs.Common.{◌≡◌, ℕ, List, [], refl, sym, ap, ◌∙◌, inl, inr, subst, arith}
use Rattle.std.specs.Prelude.{Option, Some, None, codes, Result, Ok, Err}
use Rattle.rv_text.specs.declared.numbers.TheConstants.{USAGE}
use Rattle.rv_text.specs.declared.refusals.Refusal.{Refusal}
use Rattle.rv_model.specs.declared.entry.Entry.{Entry}
use Rattle.rv_model.specs.Histories.{IsOneHistory, IsLegal}
use Rattle.rv_io.specs.Files.{Files}
use Rattle.rv_bind.specs.declared.fault.BindFault.{BindFault}
use Rattle.rv_bind.specs.declared.fault.BindFault.TheVariants as faults
use Rattle.rv_bind.specs.Outcomes.{Outcome, accepted, refused, missing, CountsFaults, IsRefusal}
use Rattle.rv_bind.proofs.OutcomeLemmas.{none_counted}
use Rattle.rv_tool.specs.declared.replay.FinishedRun.{FinishedRun}
use Rattle.rv_tool.specs.Calls.{CallEnd, Call, CountsNone}
use Rattle.rv_tool.specs.Changes.{input_beside}
use Rattle.rv_tool.specs.Checks.{IsCheckReport, checked_input}
use Rattle.rv_tool.specs.inner.Commands.{IsOneReport, IsVerdictReport, IsWatchVerdictReport, IsJournalVerdictReport, IsText, IsPrinted, IsSessionText, ComesTo, CommandComes}
use Rattle.rv_tool.specs.Puts.{IsPut}
use Rattle.rv_tool.specs.HeaderFiles.{header_in}
use Rattle.rv_tool.specs.Headline.{IsReported, Ending, GivesUp, PrintsText, PrintsRefusal, PrintsSome, Ends}
use Rattle.rv_tool.specs.Inputs.{InputValue, run_input}
use Rattle.rv_tool.specs.Journals.{IsJournalReport, recordable_input}
use Rattle.rv_tool.specs.Loaded.{generated_files}
use Rattle.rv_tool.specs.Opaque.{EndsOnSome, AnswersOpaque}
use Rattle.rv_tool.specs.Output.{IsWritten, refusal_text, missing_text}
use Rattle.rv_tool.specs.Possible.{MayInput, MayRunBeside, MayWatch, MayRecord, MayCheck, MayTable, MayHeader, MayControl}
use Rattle.rv_tool.specs.Runs.{Prints, PrintsSession, AnswersBy, Answers}
use Rattle.rv_tool.specs.Sessions.{Printed, control_in}
use Rattle.rv_tool.specs.Tables.{table_in}
use Rattle.rv_tool.specs.Verdicts.{Verdicts}
use Rattle.rv_tool.specs.Watched.{WatchValue, watched_input}
use Rattle.rv_tool.specs.WatchReports.{IsWatchReport}
use Rattle.rv_tool.specs.Words.{CommandValue, replay, feed, feed_beside, journal, check, watch, table, header, control, load}
use Rattle.rv_tool.proofs.LoadedLemmas.{IsWithin, load_ends, load_reports}

-- ---- texts

-- where a text was told and no history is kept, this text is said
pub says_told : (e : CallEnd) (told said_text : List ℕ) (said : ℕ) → IsWritten e.before e.after told said e.status → told ≡ said_text → e.history ≡ [] → PrintsText said_text said e
says_told e told said_text said is same none = inl (subst (λ (text : List ℕ). IsWritten e.before e.after text said e.status) same is, none)

-- a text that goes with no run is said
text_ends : (e : CallEnd) (told : List ℕ) (said : ℕ) (text : List ℕ) (status : ℕ) → IsText told said e.history text status → IsWritten e.before e.after text status e.status → PrintsText told said e
text_ends e told said text status is written = says_told e text told said (subst (λ (n : ℕ). IsWritten e.before e.after text n e.status) is.1 written) is.0 is.2

-- ---- what is put

-- a refusal that was said
pub refused_put : (done : Result FinishedRun BindFault) (e : CallEnd) (file told : List ℕ) (refusal : Refusal) → done ≡ Err (faults.Refused file refusal) → told ≡ file → PrintsText (refusal_text (Some told) refusal) 2 e → IsPut done e
refused_put done e file told refusal is same says = rw is (subst (λ (f : List ℕ). PrintsText (refusal_text (Some f) refusal) 2 e) same says)

-- an unread file that was said
pub unread_put : (done : Result FinishedRun BindFault) (e : CallEnd) (file told : List ℕ) → done ≡ Err (faults.Unread file) → told ≡ file → PrintsText (missing_text told) 3 e → IsPut done e
unread_put done e file told is same says = rw is (subst (λ (f : List ℕ). PrintsText (missing_text f) 3 e) same says)

-- ---- a command

-- what goes with the value is written, and so it ends in its own way
abbrev Accepts : {Y : Type 0} → (Y → List Entry → List ℕ → ℕ → Type 0) → (Y → Ending) → CallEnd → Type 0
Accepts {Y} Goes Accepted e = (y : Y) (text : List ℕ) (said : ℕ) → Goes y e.history text said → IsWritten e.before e.after text said e.status → Accepted y e

module _ (c : Call) {Y : Type 0} (May : Outcome Y → Type 0) (Goes : Y → List Entry → List ℕ → ℕ → Type 0) (Accepted : Y → Ending) (accepts : Accepts Goes Accepted c.end) (outcome : Files → Outcome Y) (told : Option Files) where
  -- what was done and put ends in its own way
  done_ends : (y : Y) (done : FinishedRun) → Goes y done.closed done.text.items done.status → IsPut (Ok done) c.end → Accepted y c.end
  done_ends y done goes put = accepts y done.text.items done.status (subst (λ (h : List Entry). Goes y h done.text.items done.status) (sym put.1) goes) put.0

  -- a refusal that has one of the numbers and was said ends the command
  refusal_ends : (file : List ℕ) (refusal : Refusal) → IsRefusal refusal → PrintsText (refusal_text (Some file) refusal) 2 c.end → PrintsRefusal file refusal c.end
  refusal_ends file refusal numbered (inl told) = inl (numbered, told.0, told.1)
  refusal_ends file refusal numbered (inr up) = inr up

  -- on a store that tells no files
  pub untold_ends : (result : Result FinishedRun BindFault) → CountsFaults c.faults_before c.faults_after result → ComesTo May Goes outcome told c.faults_before c.faults_after result → IsPut result c.end → told ≡ None → EndsOnSome May Accepted c
  untold_ends (Ok done) counts comes put none = inl (accepted comes.1.0, comes.1.1, counts, done_ends comes.1.0 done comes.1.2 put)
  untold_ends (Err faults.Memory) counts comes up none = inr (counts, up)
  untold_ends (Err (faults.Refused file refusal)) counts comes says none = inl (refused file refusal, comes.2, counts, refusal_ends file refusal comes.0.0 says)
  untold_ends (Err (faults.Unread file)) counts (inl lacks, named, may) says none = absurd (let both : Some lacks.0 ≡ None = rw (← lacks.1) none in cc)
  untold_ends (Err (faults.Unread file)) counts (inr rose, named, may) says none = inl (missing file, may, rose, says)

  module _ (no : (y : Y) → GivesUp c.end → Accepted y c.end) where
    -- want of memory ends every command
    gives_up : (o : Outcome Y) → GivesUp c.end → Ends Accepted o c.end
    gives_up (accepted y) up = no y up
    gives_up (refused file refusal) up = inr up
    gives_up (missing file) up = inr up

    -- on a store that tells its files
    pub told_ends : (result : Result FinishedRun BindFault) → CountsFaults c.faults_before c.faults_after result → ComesTo May Goes outcome told c.faults_before c.faults_after result → IsPut result c.end → (files : Files) → told ≡ Some files → AnswersBy Accepted outcome files c
    told_ends (Ok done) counts comes put files known =
        let found = comes.0 files known in
        inl (counts, subst (λ (o : Outcome Y). Ends Accepted o c.end) (sym found.1) (done_ends found.0 done found.2 put))
    told_ends (Err faults.Memory) (inl same) comes up files known = inl (same, gives_up (outcome files) up)
    told_ends (Err faults.Memory) (inr rose) comes up files known = inr (rose, inr up)
    told_ends (Err (faults.Refused file refusal)) counts comes says files known = inl (counts, subst (λ (o : Outcome Y). Ends Accepted o c.end) (sym (comes.0.1 files known)) (refusal_ends file refusal comes.0.0 says))
    told_ends (Err (faults.Unread file)) (inr rose) comes says files known = inr (rose, inl (file, comes.1 files known, says))
    told_ends (Err (faults.Unread file)) (inl still) (inr rose, named, may) says files known = inr (rose, inl (file, named files known, says))
    told_ends (Err (faults.Unread file)) (inl still) (inl lacks, named, may) says files known =
        let both : Some lacks.0 ≡ Some files = sym lacks.1 ∙ known in
        let same : lacks.0 ≡ files = cc in
        inl (still, subst (λ (o : Outcome Y). Ends Accepted o c.end) (sym (ap outcome (sym same) ∙ lacks.2)) says)

-- where no fault was counted, no file is blamed
no_blame : {Y : Type 0} (Accepted : Y → Ending) (outcome : Files → Outcome Y) (files : Files) (c : Call) → c.faults_before ≡ 0 → c.faults_after ≡ 0 → AnswersBy Accepted outcome files c → Ends Accepted (outcome files) c.end
no_blame Accepted outcome files c first last (inl ends) = ends.1
no_blame Accepted outcome files c first last (inr (rose, said)) = absurd (elim rose [
  | inl more ↦ omega arith
  | inr full ↦ let at = full.0 in omega arith
])

-- ---- all commands

-- what is promised of a call
pub record IsAnswered (asked : Option CommandValue) (told : Option Files) (c : Call) : Type 0 where
  pub answers : (files : Files) → told ≡ Some files → Answers asked files c
  pub verdicts : (files : Files) → told ≡ Some files → Verdicts asked files c
  pub opaque : told ≡ None → AnswersOpaque asked c

module _ (c : Call) (told : Option Files) (result : Result FinishedRun BindFault) (counts : CountsFaults c.faults_before c.faults_after result) (put : IsPut result c.end) where
  -- what goes with the value is told as it is
  module _ {Y : Type 0} (May : Outcome Y → Type 0) (Goes : Y → List Entry → List ℕ → ℕ → Type 0) (outcome : Files → Outcome Y) (comes : ComesTo May Goes outcome told c.faults_before c.faults_after result) where
    -- on a store that tells its files
    pub report_told : (Weaker : Y → List Entry → List ℕ → ℕ → Type 0) → ((y : Y) (h : List Entry) (text : List ℕ) (said : ℕ) → Goes y h text said → Weaker y h text said) → (files : Files) → told ≡ Some files → AnswersBy (λ y. PrintsSome (Weaker y)) outcome files c
    report_told Weaker weaker = told_ends c May Goes (λ y. PrintsSome (Weaker y)) (λ y text said goes written. inl (text, said, weaker y c.end.history text said goes, written)) outcome told (λ y up. inr up) result counts comes put

    -- on one that does not
    pub report_untold : told ≡ None → EndsOnSome May (λ y. PrintsSome (Goes y)) c
    report_untold = untold_ends c May Goes (λ y. PrintsSome (Goes y)) (λ y text said goes written. inl (text, said, goes, written)) outcome told result counts comes put

  -- a text that is one of these is printed
  module _ (May : Outcome (List ℕ) → Type 0) (outcome : Files → Outcome (List ℕ)) (comes : ComesTo May IsPrinted outcome told c.faults_before c.faults_after result) where
    text_told : (files : Files) → told ≡ Some files → AnswersBy Prints outcome files c
    text_told = told_ends c May IsPrinted Prints (λ y text said goes written. text_ends c.end y 0 text said goes written) outcome told (λ y up. inr up) result counts comes put

    text_untold : told ≡ None → EndsOnSome May Prints c
    text_untold = untold_ends c May IsPrinted Prints (λ y text said goes written. text_ends c.end y 0 text said goes written) outcome told result counts comes put

  -- a command that was done and put is answered
  pub command_answered : (command : CommandValue) → IsWithin command → CommandComes command told c.faults_before c.faults_after result → IsAnswered (Some command) told c
  command_answered (replay bindings trace) within comes =
      let outcome : Files → Outcome InputValue = λ files. run_input files bindings trace in record {
        answers = report_told (MayInput bindings trace) IsOneReport outcome comes (IsReported IsOneHistory) (λ y h text said goes. goes.0);
        verdicts = report_told (MayInput bindings trace) IsOneReport outcome comes IsOneReport (λ y h text said goes. goes);
        opaque = report_untold (MayInput bindings trace) IsOneReport outcome comes;
      }
  command_answered (feed bindings trace) within comes =
      let outcome : Files → Outcome InputValue = λ files. run_input files bindings trace in record {
        answers = report_told (MayInput bindings trace) IsVerdictReport outcome comes (IsReported IsLegal) (λ y h text said goes. goes.0);
        verdicts = report_told (MayInput bindings trace) IsVerdictReport outcome comes IsVerdictReport (λ y h text said goes. goes);
        opaque = report_untold (MayInput bindings trace) IsVerdictReport outcome comes;
      }
  command_answered (feed_beside bindings trace script) within comes = record {
    answers = report_told (MayRunBeside bindings trace script) (IsReported IsLegal) (λ files. input_beside files bindings trace script) comes (IsReported IsLegal) (λ y h text said goes. goes);
    verdicts = λ files known. tt;
    opaque = report_untold (MayRunBeside bindings trace script) (IsReported IsLegal) (λ files. input_beside files bindings trace script) comes;
  }
  command_answered (watch bindings trace monitor instance) within comes =
      let May : Outcome WatchValue → Type 0 = MayWatch bindings trace monitor instance in
      let outcome : Files → Outcome WatchValue = λ files. watched_input files bindings trace monitor instance in record {
        answers = report_told May IsWatchVerdictReport outcome comes IsWatchReport (λ y h text said goes. goes.0);
        verdicts = report_told May IsWatchVerdictReport outcome comes IsWatchVerdictReport (λ y h text said goes. goes);
        opaque = report_untold May IsWatchVerdictReport outcome comes;
      }
  command_answered (journal bindings trace) within comes =
      let outcome : Files → Outcome InputValue = λ files. recordable_input files bindings trace in record {
        answers = report_told (MayRecord bindings trace) IsJournalVerdictReport outcome comes IsJournalReport (λ y h text said goes. goes.0);
        verdicts = report_told (MayRecord bindings trace) IsJournalVerdictReport outcome comes IsJournalVerdictReport (λ y h text said goes. goes);
        opaque = report_untold (MayRecord bindings trace) IsJournalVerdictReport outcome comes;
      }
  command_answered (check bindings trace judged) within comes = record {
    answers = report_told (MayCheck bindings trace judged) IsCheckReport (λ files. checked_input files bindings trace judged) comes IsCheckReport (λ y h text said goes. goes);
    verdicts = λ files known. tt;
    opaque = report_untold (MayCheck bindings trace judged) IsCheckReport (λ files. checked_input files bindings trace judged) comes;
  }
  command_answered (table kind file) within comes = record {
    answers = text_told (MayTable kind file) (λ files. table_in files kind file) comes;
    verdicts = λ files known. tt;
    opaque = text_untold (MayTable kind file) (λ files. table_in files kind file) comes;
  }
  command_answered (header name file) within comes = record {
    answers = text_told (MayHeader name file) (λ files. header_in files name file) comes;
    verdicts = λ files known. tt;
    opaque = text_untold (MayHeader name file) (λ files. header_in files name file) comes;
  }
  command_answered (control bindings script) within comes =
      let outcome : Files → Outcome Printed = λ files. control_in files bindings script in record {
        answers = told_ends c (MayControl bindings script) IsSessionText PrintsSession (λ y text said goes written. text_ends c.end y.text y.status text said goes written) outcome told (λ y up. inr up) result counts comes put;
        verdicts = λ files known. tt;
        opaque = untold_ends c (MayControl bindings script) IsSessionText PrintsSession (λ y text said goes written. text_ends c.end y.text y.status text said goes written) outcome told result counts comes put;
      }
  command_answered (load blocks) few comes = record { answers = λ files known. (comes.0, load_reports blocks few c.end whole); verdicts = λ files known. (comes.0, load_ends blocks few c.end whole); opaque = λ none. (comes.0, load_ends blocks few c.end whole) }
    where
      whole : Ends (λ y. PrintsSome (IsVerdictReport y)) (run_input (generated_files blocks) (codes "gen.rv") (codes "gen.txt")) c.end
      whole = no_blame (λ y. PrintsSome (IsVerdictReport y)) (λ files. run_input files (codes "gen.rv") (codes "gen.txt")) (generated_files blocks) (record c { faults_before = 0; faults_after = 0 }) refl refl
          (told_ends (record c { faults_before = 0; faults_after = 0 }) (MayInput (codes "gen.rv") (codes "gen.txt")) IsVerdictReport (λ y. PrintsSome (IsVerdictReport y)) (λ y text said goes written. inl (text, said, goes, written)) (λ files. run_input files (codes "gen.rv") (codes "gen.txt")) (Some (generated_files blocks)) (λ y up. inr up) result (none_counted 0 0 result refl) comes.1 put (generated_files blocks) refl)

-- the words ask for the command that was done
pub words_answered : (asked said : Option CommandValue) (told : Option Files) (c : Call) → said ≡ asked → IsAnswered said told c → IsAnswered asked told c
words_answered asked said told c same = subst (λ (o : Option CommandValue). IsAnswered o told c) same

-- words that are no command are refused
pub usage_answered : (told : Option Files) (c : Call) → CountsNone c → PrintsText (refusal_text None (record { number = USAGE; line = 0 })) 2 c.end → IsAnswered None told c
usage_answered told c none said = record { answers = λ files known. (none, said); verdicts = λ files known. tt; opaque = λ untold. (none, said) }
