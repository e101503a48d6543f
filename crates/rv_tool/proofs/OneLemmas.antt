-- What one thread tells: nothing is stopped, and the input determines the report.
use Rattle.std.proofs.Common.{◌≡◌, ◌≢◌, ℕ, List, map, sym, ap, ◌∙◌, subst}
use Rattle.std.specs.Prelude.{Result, Ok, Err, IfOk}
use Rattle.std.specs.declared.alloc.AllocError.{AllocError}
use Rattle.rv_model.specs.declared.entry.Entry.{Entry}
use Rattle.rv_model.specs.Cuts.{AtEach}
use Rattle.rv_model.specs.Histories.{IsNoStop, IsOneHistory, LinesApart}
use Rattle.rv_model.specs.Judging.{Judge}
use Rattle.rv_model.specs.Records.{records_of, status_of}
use Rattle.rv_model.specs.Reports.{report_text}
use Rattle.rv_model.proofs.OneJudgeLemmas.{lists-same}
use Rattle.rv_model.proofs.UniqueLemmas.{one_has_no_stop, one_is_unique}
use Rattle.rv_report.specs.Reported.{reported}
use Rattle.rv_laws.proofs.StatusLemmas.{free_gives_no_six}
use Rattle.rv_replay.proofs.RunLemmas.{fresh-works}
use Rattle.rv_route.specs.Listing.{works_listed}
use Rattle.rv_tool.specs.declared.listed.PreparedList.{PreparedList}
use Rattle.rv_tool.specs.declared.replay.FinishedRun.{FinishedRun}
use Rattle.rv_tool.specs.inner.Commands.{IsOneReport}
use Rattle.rv_tool.specs.Headline.{IsReported}
use Rattle.rv_tool.specs.Inputs.{InputValue, run_of}
use Rattle.rv_tool.specs.Listed.{listed_value, IsPreparedList}
use Rattle.rv_tool.specs.Verdicts.{HasOneVerdict}

module _ (i : InputValue) (apart : LinesApart (run_of i).works) (h : List Entry) (text : List ℕ) (status : ℕ) (is : IsReported IsOneHistory i h text status) where
  -- nothing is stopped
  free : AtEach (λ before e. IsNoStop e.act) h
  free = one_has_no_stop (run_of i) is.judges h apart is.history

  -- so the status is not that of a stop
  no_six : status ≢ 6
  no_six six = free_gives_no_six (run_of i) is.judges h is.history.legal free (sym is.status_is ∙ six)

  -- another report is the same
  same_report : (k : List Entry) (other : List ℕ) (said : ℕ) → IsReported IsOneHistory i k other said → (h ≡ k) × (text ≡ other) × (status ≡ said)
  same_report k other said one =
      let same : h ≡ k = one_is_unique (run_of i) is.judges one.judges h k apart is.are_judges one.are_judges is.history one.history in
      let judges : is.judges ≡ one.judges = lists-same (run_of i).specs (run_of i).setup.tables is.judges one.judges is.are_judges one.are_judges in
      let records : records_of (run_of i) is.judges h ≡ records_of (run_of i) one.judges k =
      ap (λ (js : List Judge). records_of (run_of i) js h) judges ∙ ap (records_of (run_of i) one.judges) same in
      (same, is.text_is ∙ ap (report_text (map (reported i.bound.containers) i.bound.monitors) i.routed.tasks) records ∙ sym one.text_is, is.status_is ∙ ap status_of records ∙ sym one.status_is)

  -- the report has its verdict
  has_one_verdict : HasOneVerdict i h text status
  has_one_verdict = record { no_stop = free; not_six = no_six; only = same_report }

-- a run on one thread of what is ready has its verdict
pub runs_one : (ready : PreparedList) (ran : Result FinishedRun AllocError) → IsPreparedList ready → IfOk ran (λ done. IsReported IsOneHistory (listed_value ready) done.closed done.text.items done.status) → IfOk ran (λ done. IsOneReport (listed_value ready) done.closed done.text.items done.status)
runs_one ready (Ok done) is reported = (reported, has_one_verdict (listed_value ready) (subst LinesApart (fresh-works (works_listed ready.list)) is.fits.lanes.apart) done.closed done.text.items done.status reported)
runs_one ready (Err none) is done = done
