-- What `check` says of a journal that `journal` printed.
use Rattle.std.proofs.Common.{◌≡◌, ◌⊎◌, ◌≤◌, ℕ, Bool, true, false, List, [], refl, sym, ap, ◌∙◌, subst, inl, inr, arith}
use Rattle.std.specs.Prelude.{Option, Some, Ok, codes, if◌then◌else◌}
use Rattle.rv_io.specs.Files.{Files}
use Rattle.rv_io.specs.Taken.{Takes}
use Rattle.rv_text.specs.declared.numbers.TheConstants.{NOT_NUMBERED}
use Rattle.rv_text.specs.Readings.{refused_with}
use Rattle.rv_model.specs.declared.entry.Entry.{Entry}
use Rattle.rv_model.specs.Histories.{Input, IsLegal}
use Rattle.rv_model.specs.Judging.{Judge}
use Rattle.rv_model.proofs.OneJudgeLemmas.{lists-same}
use Rattle.rv_core.specs.Setup.{judges_of}
use Rattle.rv_check.specs.declared.reading.Verdict.{Verdict}
use Rattle.rv_check.specs.declared.reading.Verdict.TheVariants.{Yes}
use Rattle.rv_check.specs.Verdicts.{IsYes}
use Rattle.rv_check.proofs.VerdictLemmas.{one-verdict}
use Rattle.rv_bind.specs.Outcomes.{Outcome, accepted, refused, missing, reading, of_file, of_text, files_without}
use Rattle.rv_tool.specs.Calls.{Call, CallEnd}
use Rattle.rv_tool.specs.Checks.{CheckedValue, IsJudged, Checks, checked_input, judged, verdict_text, verdict_status}
use Rattle.rv_tool.specs.Headline.{PrintsText, GivesUp, Ends}
use Rattle.rv_tool.specs.Inputs.{InputValue, run_input, run_of}
use Rattle.rv_tool.specs.Journals.{IsJournalReport, Journals, can_record, if_recordable, recordable_input}
use Rattle.rv_tool.specs.Output.{IsWritten}
use Rattle.rv_tool.specs.PrintedJournals.{PrintedIsYes, PrintedIsJudgedYes, HasPrinted, KeepsPrinted}
use Rattle.rv_tool.specs.Runs.{AnswersBy}
use Rattle.rv_tool.proofs.BesideLemmas.{input-local}

-- ---- one input

module _ (i : InputValue) (h : List Entry) (printed : List ℕ) (said : ℕ) (report : IsJournalReport i h printed said) where
  -- the history is legal by the tables too
  table_legal : (verdict : Verdict) → IsJudged (record { input = i; journal = printed }) verdict → IsLegal (run_of i) (judges_of (run_of i).setup) h
  table_legal verdict is =
      let same : report.judges ≡ judges_of (run_of i).setup = lists-same (run_of i).specs (run_of i).setup.tables report.judges (judges_of (run_of i).setup) report.are_judges is.are_judges in
      subst (λ (js : List Judge). IsLegal (run_of i) js h) same report.history

  -- so the text is one of which `yes` is true
  printed_yes : (verdict : Verdict) → IsJudged (record { input = i; journal = printed }) verdict → IsYes (judged i printed) (run_of i).specs
  printed_yes verdict is = record {
    history = h;
    entries = report.entries;
    text = report.text_is;
    legal = subst (λ (x : Input). IsLegal x (judges_of (run_of i).setup) h) (sym is.is_run) (table_legal verdict is);
  }

  -- and no other verdict is
  is_yes : (verdict : Verdict) → IsJudged (record { input = i; journal = printed }) verdict → verdict ≡ Yes
  is_yes verdict is = one-verdict (judged i printed) (run_of i).specs verdict Yes is.holds (printed_yes verdict is)

-- the law of one input
pub printed_is_yes : PrintedIsYes
printed_is_yes i h k printed text said status report checked =
    let same : checked.verdict ≡ Yes = is_yes i h printed said report checked.verdict checked.judged in
    (checked.text_is ∙ ap verdict_text same, checked.status_is ∙ ap verdict_status same)

-- ---- what the first call came to

-- the status is one of a run
abbrev IsRunStatus : ℕ → Type 0
IsRunStatus status = (status ≡ 0) ⊎ (status ≡ 1) ⊎ (status ≡ 6)

-- 2 to 5 are none
not_of_run : (status : ℕ) → IsRunStatus status → 2 ≤ status → status ≤ 5 → ⊥
not_of_run status (inl is) low high = omega arith
not_of_run status (inr (inl is)) low high = omega arith
not_of_run status (inr (inr is)) low high = omega arith

-- want of memory has no such status
up_none : (e : CallEnd) → GivesUp e → IsRunStatus e.status → ⊥
up_none e up of_run = let five = up.0 in not_of_run e.status of_run (omega arith) (omega arith)

-- what is written with another status has none
written_none : (e : CallEnd) (text : List ℕ) (said : ℕ) → IsWritten e.before e.after text said e.status → 2 ≤ said → said ≤ 5 → IsRunStatus e.status → ⊥
written_none e text said (inl all) low high of_run = let same = all.0 in not_of_run e.status of_run (omega arith) (omega arith)
written_none e text said (inr front) low high of_run = let four = front.0 in not_of_run e.status of_run (omega arith) (omega arith)

-- a text that goes with no run has none
text_none : (e : CallEnd) (text : List ℕ) (said : ℕ) → PrintsText text said e → 2 ≤ said → said ≤ 5 → IsRunStatus e.status → ⊥
text_none e text said (inl told) low high of_run = written_none e text said told.0 low high of_run
text_none e text said (inr up) low high of_run = up_none e up of_run

-- a sink that was empty took the text that it has
took_all : (before after : Option (List ℕ)) (text printed : List ℕ) → Takes before after text → before ≡ Some [] → after ≡ Some printed → text ≡ printed
took_all before after text printed takes empty took =
    let all : Takes (Some []) (Some printed) text = subst (λ (b : Option (List ℕ)). Takes b (Some printed) text) empty (subst (λ (a : Option (List ℕ)). Takes before a text) took takes) in
    sym all

-- this input has a journal, which is this text
record Recorded (files : Files) (bindings trace printed : List ℕ) : Type 0 where
  input : InputValue
  is : run_input files bindings trace ≡ accepted input
  history : List Entry
  said : ℕ
  report : IsJournalReport input history printed said

-- what is recorded is what was read
recorded_input : (bindings : List ℕ) (o : Outcome InputValue) (i : InputValue) → reading o (λ input. of_file bindings (if_recordable input)) ≡ accepted i → o ≡ accepted i
recorded_input bindings (accepted input) i is = go (can_record input) is
  where
    go : (may : Bool) → of_file bindings (if may then Ok input else refused_with NOT_NUMBERED) ≡ accepted i → accepted input ≡ accepted i
    go true same = same
    go false same = cc
recorded_input bindings (refused file refusal) i is = cc
recorded_input bindings (missing file) i is = cc

module _ (files : Files) (bindings trace printed : List ℕ) (first : Call) (has : HasPrinted first.end printed) where
  -- a report that was put is that of the text
  put_report : (i : InputValue) → recordable_input files bindings trace ≡ accepted i → Journals i first.end → Recorded files bindings trace printed
  put_report i is (inl (text, said, report, inl all)) =
      let same : text ≡ printed = took_all first.end.before.taken first.end.after.taken text printed all.2 has.empty has.took in record {
        input = i;
        is = recorded_input bindings (run_input files bindings trace) i is;
        history = first.end.history;
        said = said;
        report = subst (λ (t : List ℕ). IsJournalReport i first.end.history t said) same report;
      }
  put_report i is (inl (text, said, report, inr front)) = absurd (let four = front.0 in not_of_run first.end.status has.of_run (omega arith) (omega arith))
  put_report i is (inr up) = absurd (up_none first.end up has.of_run)

  -- what the files come to was recorded
  ends_recorded : (o : Outcome InputValue) → recordable_input files bindings trace ≡ o → Ends Journals o first.end → Recorded files bindings trace printed
  ends_recorded (accepted i) is ends = put_report i is ends
  ends_recorded (refused file refusal) is (inl said) = absurd (written_none first.end _ 2 said.1 (omega arith) (omega arith) has.of_run)
  ends_recorded (refused file refusal) is (inr up) = absurd (up_none first.end up has.of_run)
  ends_recorded (missing file) is ends = absurd (text_none first.end _ 3 ends (omega arith) (omega arith) has.of_run)

  -- so was what the call answered
  recorded_files : AnswersBy Journals (λ held. recordable_input held bindings trace) files first → Recorded files bindings trace printed
  recorded_files (inl ends) = ends_recorded (recordable_input files bindings trace) refl ends.1
  recorded_files (inr (rose, inl said)) = absurd (text_none first.end _ 3 said.2 (omega arith) (omega arith) has.of_run)
  recorded_files (inr (rose, inr up)) = absurd (up_none first.end up has.of_run)

-- ---- what the second call comes to

module _ (files later : Files) (bindings trace name printed : List ℕ) (keeps : KeepsPrinted files later bindings trace name printed) where
  -- the reading of the run
  abbrev run : Files → Outcome InputValue
  run held = run_input held bindings trace

  -- without the name the earlier files come to what they were
  earlier_without : run (files_without name files) ≡ run files
  earlier_without = elim (input-local bindings trace files name) [
    | inl reached ↦ absurd (keeps.unread reached)
    | inr same ↦ same
  ]

  -- and so do the later ones
  later_without : run (files_without name later) ≡ run later
  later_without = elim (input-local bindings trace later name) [
    | inl reached ↦ absurd (keeps.unread (ap run (sym keeps.others) ∙ reached))
    | inr same ↦ same
  ]

  -- the run is the same
  run_same : run later ≡ run files
  run_same = sym later_without ∙ ap run keeps.others ∙ earlier_without

  -- what is judged is the printed text, by the same input
  judged_same : (i : InputValue) → run files ≡ accepted i → checked_input later bindings trace name ≡ accepted (record { input = i; journal = printed })
  judged_same i is =
      ap (λ (o : Outcome InputValue). reading o (λ input. of_text name (later name) (λ text. accepted (record { input = input; journal = text })))) (run_same ∙ is)
      ∙ ap (λ (held : Option (List ℕ)). of_text name held (λ text. accepted (record { input = i; journal = text }))) keeps.has

-- a report of the text is `yes`
yes_ends : (i : InputValue) (h : List Entry) (printed : List ℕ) (said : ℕ) (e : CallEnd) → IsJournalReport i h printed said → Checks (record { input = i; journal = printed }) e → PrintsText (codes "yes\n") 0 e
yes_ends i h printed said e report (inl (text, status, checked, written)) =
    let is = printed_is_yes i h e.history printed text said status report checked in
    inl (subst (λ (t : List ℕ). IsWritten e.before e.after t 0 e.status) is.0 (subst (λ (n : ℕ). IsWritten e.before e.after text n e.status) is.1 written), checked.no_history)
yes_ends i h printed said e report (inr up) = inr up

-- the law of two calls
pub printed_is_judged_yes : PrintedIsJudgedYes
printed_is_judged_yes files later bindings trace name printed first second recorded has keeps answered =
    let was : Recorded files bindings trace printed = recorded_files files bindings trace printed first has recorded in
    let same : checked_input later bindings trace name ≡ accepted (record { input = was.input; journal = printed }) = judged_same files later bindings trace name printed keeps was.input was.is in
    elim answered [
      | inl ends ↦ inl (ends.0, yes_ends was.input was.history printed was.said second.end was.report (subst (λ (o : Outcome CheckedValue). Ends Checks o second.end) same ends.1))
      | inr unread ↦ inr unread
    ]
