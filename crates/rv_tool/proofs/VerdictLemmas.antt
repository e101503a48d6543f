-- What is told of lone slots follows from what was read.
use Rattle.std.proofs.Common.{◌≡◌, ◌≢◌, ℕ, zero, suc, false, List, [], ◌∷◌, map, refl, sym, ap, ◌∙◌, subst}
use Rattle.std.specs.Prelude.{All, Result, Ok, Err, IfOk}
use Rattle.std.specs.declared.alloc.AllocError.{AllocError}
use Rattle.std.proofs.lemmas.List.Elements.{All-head, All-tail}
use Rattle.rv_model.specs.declared.entry.Act.TheVariants.{Stop}
use Rattle.rv_model.specs.declared.entry.Entry.{Entry}
use Rattle.rv_model.specs.Cuts.{AtEach}
use Rattle.rv_model.specs.Histories.{IsLegal, IsOneHistory, AreJudges}
use Rattle.rv_model.specs.Judging.{Judge}
use Rattle.rv_model.specs.Reactors.{is_panic}
use Rattle.rv_model.specs.Records.{records_of, status_of}
use Rattle.rv_model.specs.Reports.{report_text}
use Rattle.rv_model.specs.Setups.{slot_of}
use Rattle.rv_model.proofs.OneJudgeLemmas.{lists-same}
use Rattle.rv_bind.specs.declared.bindings.Monitor.{Monitor}
use Rattle.rv_feed.specs.Existence.{HasOneHistory}
use Rattle.rv_feed.specs.Lane.{panics_of}
use Rattle.rv_report.specs.Reported.{reported}
use Rattle.rv_laws.specs.Verdicts.{IsSteady, AgreeOnSingleWriter}
use Rattle.rv_laws.proofs.StatusLemmas.{all_lone_give_no_six}
use Rattle.rv_laws.proofs.StopLemmas.{lone_has_no_stop}
use Rattle.rv_laws.proofs.VerdictLemmas.{lone_records_are_one, all_records_are_one}
use Rattle.rv_tool.specs.declared.input.Prepared.{Prepared}
use Rattle.rv_tool.specs.declared.replay.FinishedRun.{FinishedRun}
use Rattle.rv_tool.specs.declared.watch.PreparedWatch.{PreparedWatch}
use Rattle.rv_tool.specs.inner.Commands.{IsVerdictReport, IsWatchVerdictReport, IsJournalVerdictReport}
use Rattle.rv_tool.specs.Headline.{IsReported}
use Rattle.rv_tool.specs.Inputs.{InputValue, run_of}
use Rattle.rv_tool.specs.inner.Journals.{IsRecordable}
use Rattle.rv_tool.specs.inner.Prepared.{prepared_value, IsPrepared}
use Rattle.rv_tool.specs.inner.WatchReports.{watch_value, IsPreparedWatch}
use Rattle.rv_tool.specs.Journals.{IsJournalReport}
use Rattle.rv_tool.specs.Verdicts.{HasOneWriterIn, HasNoPanic, HasRunVerdicts, HasVerdicts}
use Rattle.rv_tool.specs.Watched.{WatchValue}
use Rattle.rv_tool.specs.WatchReports.{IsWatchReport}
use Rattle.rv_tool.proofs.CpuLemmas.{FitCpus, ready_routed, cpu_is_lone, all_are_lone}

-- ---- reactors

-- where no reactor is panic, none of a number is
pub calm : (monitors : List Monitor) → All (λ (m : Monitor). is_panic m.reactor ≡ false) monitors → (number : ℕ) → panics_of (map (λ (m : Monitor). m.reactor) monitors) number ≡ false
calm [] none number = refl
calm (m ∷ monitors) none zero = All-head (λ (m : Monitor). is_panic m.reactor ≡ false) m monitors none
calm (m ∷ monitors) none (suc number) = calm monitors (All-tail (λ (m : Monitor). is_panic m.reactor ≡ false) m monitors none) number

-- ---- one thread

-- a history of one thread has a report
one_reported : (i : InputValue) → HasOneHistory (run_of i) → (k : List Entry) × (other : List ℕ) × (said : ℕ) × IsReported IsOneHistory i k other said
one_reported i one =
    let records = records_of (run_of i) one.judges one.history in
    let text : List ℕ = report_text (map (reported i.bound.containers) i.bound.monitors) i.routed.tasks records in
    (one.history, text, status_of records, record { judges = one.judges; are_judges = one.are_judges; history = one.is_one; text_is = refl; status_is = refl })

-- ---- a report
module _ (i : InputValue) (unchanged : i.changes ≡ []) (h : List Entry) (text : List ℕ) (status : ℕ) (is : IsReported IsLegal i h text status) where
  -- a run without panic is steady
  steady : HasNoPanic i → IsSteady (run_of i)
  steady none = record { no_changes = unchanged; no_panics = calm i.bound.monitors none }

  -- nothing stops a lone slot
  no_stop : (slot : ℕ) → HasOneWriterIn i slot → AtEach (λ before e. ¬ (e.act ≡ Stop slot)) h
  no_stop slot one_writer = lone_has_no_stop (run_of i) is.judges h slot is.history unchanged one_writer

  -- where all slots are lone the status is not 6
  no_six : ((slot : ℕ) → HasOneWriterIn i slot) → status ≢ 6
  no_six one_writer six = all_lone_give_no_six (run_of i) is.judges h is.history unchanged one_writer (sym is.status_is ∙ six)

  -- the records of a lone slot are those of one thread
  lone_as_one : HasNoPanic i → (judges : List Judge) (k : List Entry) → AreJudges (run_of i).specs (run_of i).setup.tables judges → IsOneHistory (run_of i) judges k → AgreeOnSingleWriter (run_of i) judges judges h k
  lone_as_one none judges k are one =
      let same : is.judges ≡ judges = lists-same (run_of i).specs (run_of i).setup.tables is.judges judges is.are_judges are in
      let agree = lone_records_are_one (run_of i) is.judges judges h k (steady none) (record { judges = is.are_judges; other_judges = are; history = is.history; other = one }) in
      subst (λ (js : List Judge). AgreeOnSingleWriter (run_of i) js judges h k) same agree

  -- where all slots are lone the report is that of one thread
  all_as_one : HasNoPanic i → ((slot : ℕ) → HasOneWriterIn i slot) → (k : List Entry) (other : List ℕ) (said : ℕ) → IsReported IsOneHistory i k other said → (text ≡ other) × (status ≡ said)
  all_as_one none one_writer k other said one =
      let same : records_of (run_of i) is.judges h ≡ records_of (run_of i) one.judges k =
      all_records_are_one (run_of i) is.judges one.judges h k (steady none) (record { judges = is.are_judges; other_judges = one.are_judges; history = is.history; other = one.history }) one_writer in
      (is.text_is ∙ ap (report_text (map (reported i.bound.containers) i.bound.monitors) i.routed.tasks) same ∙ sym one.text_is, is.status_is ∙ ap status_of same ∙ sym one.status_is)

  -- the history and the status of a run at once have their verdicts
  has_run_verdicts : FitCpus i → HasOneHistory (run_of i) → HasRunVerdicts i h status
  has_run_verdicts routed one = record {
    one = one_reported i one;
    not_stopped = no_stop;
    not_six = no_six;
    single_writer = lone_as_one;
    status_is = λ none one_writer k other said is_one. (all_as_one none one_writer k other said is_one).1;
    by_cpu = record {
      own = routed.by_cpu;
      not_stopped = λ monitor cpu has below. no_stop (slot_of (run_of i).setup.shape monitor cpu) (cpu_is_lone i routed monitor cpu has below);
      not_six = λ all. no_six (all_are_lone i routed all);
      each = λ none judges k are one monitor cpu has below. lone_as_one none judges k are one monitor cpu (cpu_is_lone i routed monitor cpu has below);
      status_is = λ none all k other said is_one. (all_as_one none (all_are_lone i routed all) k other said is_one).1;
    };
  }

  -- and so has its report
  has_verdicts : FitCpus i → HasOneHistory (run_of i) → HasVerdicts i h text status
  has_verdicts routed one = record {
    run = has_run_verdicts routed one;
    text_is = λ none one_writer k other said is_one. (all_as_one none one_writer k other said is_one).0;
    text_by_cpu = λ none all k other said is_one. (all_as_one none (all_are_lone i routed all) k other said is_one).0;
  }

-- a run at once of what is ready has its verdicts
pub runs_verdicts : (ready : Prepared) (ran : Result FinishedRun AllocError) → IsPrepared ready → ready.changes.items ≡ [] → HasOneHistory (run_of (prepared_value ready))
    → IfOk ran (λ done. IsReported IsLegal (prepared_value ready) done.closed done.text.items done.status) → IfOk ran (λ done. IsVerdictReport (prepared_value ready) done.closed done.text.items done.status)
runs_verdicts ready (Ok done) is unchanged one reported = (reported, has_verdicts (prepared_value ready) unchanged done.closed done.text.items done.status reported (ready_routed ready is) one)
runs_verdicts ready (Err none) is unchanged one done = done

-- ---- a watched run

-- the report of a watched run is one of a legal history
watched_legal : (w : WatchValue) (h : List Entry) (text : List ℕ) (status : ℕ) → (is : IsWatchReport w h text status) → IsReported IsLegal w.input h is.report status
watched_legal w h text status is = record {
  judges = is.reported.judges;
  are_judges = is.reported.are_judges;
  history = is.reported.history.legal;
  text_is = is.reported.text_is;
  status_is = is.reported.status_is;
}

-- and so it has its verdicts
pub watch_verdicts : (w : PreparedWatch) (ran : Result FinishedRun AllocError) → IsPreparedWatch w → HasOneHistory (run_of (prepared_value w.ready))
    → IfOk ran (λ done. IsWatchReport (watch_value w) done.closed done.text.items done.status) → IfOk ran (λ done. IsWatchVerdictReport (watch_value w) done.closed done.text.items done.status)
watch_verdicts w (Ok done) is one told =
    (told, has_verdicts (prepared_value w.ready) is.unchanged done.closed told.report done.status (watched_legal (watch_value w) done.closed done.text.items done.status told) (ready_routed w.ready is.ready) one)
watch_verdicts w (Err none) is one done = done

-- ---- a recorded run

-- the history of a journal has a report
recorded_legal : (i : InputValue) (h : List Entry) (text : List ℕ) (status : ℕ) → (is : IsJournalReport i h text status) → IsReported IsLegal i h (report_text (map (reported i.bound.containers) i.bound.monitors) i.routed.tasks (records_of (run_of i) is.judges h)) status
recorded_legal i h text status is = record { judges = is.judges; are_judges = is.are_judges; history = is.history; text_is = refl; status_is = is.status_is }

-- and so it and its status have their verdicts
pub journal_verdicts : (ready : Prepared) (ran : Result FinishedRun AllocError) → IsRecordable ready → HasOneHistory (run_of (prepared_value ready))
    → IfOk ran (λ done. IsJournalReport (prepared_value ready) done.closed done.text.items done.status) → IfOk ran (λ done. IsJournalVerdictReport (prepared_value ready) done.closed done.text.items done.status)
journal_verdicts ready (Ok done) is one told =
    let i : InputValue = prepared_value ready in
    let text : List ℕ = report_text (map (reported i.bound.containers) i.bound.monitors) i.routed.tasks (records_of (run_of i) told.judges done.closed) in
    (told, has_run_verdicts i is.unchanged done.closed text done.status (recorded_legal i done.closed done.text.items done.status told) (ready_routed ready is.ready) one)
journal_verdicts ready (Err none) is one done = done
