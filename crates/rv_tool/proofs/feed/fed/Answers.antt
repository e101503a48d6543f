use denote.Param.Send.{sendable}
use Rattle.std.proofs.Common.{List, refl, ◌∙◌, subst}
use Rattle.std.specs.Prelude.{IfOk}
use Rattle.std.proofs.lemmas.Result.{IfOk-weaker}
use Rattle.rv_model.specs.Histories.{IsLegal}
use Rattle.rv_feed.specs.Lane.{LaneValue, lane_records, works_of}
use Rattle.rv_replay.proofs.SendLemmas.{digested-send}
use Rattle.rv_tool.specs.declared.replay.FinishedRun.{FinishedRun}
use Rattle.rv_tool.specs.Headline.{IsReported}
use Rattle.rv_tool.specs.inner.LaneReports.{ReportsLanes}
use Rattle.rv_tool.specs.inner.Prepared.{prepared_value}
use Rattle.rv_tool.proofs.ReportedLemmas.{reported_is}
use Rattle.rv_tool.proofs.feed.fed.Goals as goal

pub feed-requires-send-C : goal.feed-requires-send-C
feed-requires-send-C g c κs within = search (sendable, digested-send) depth 20

pub returns : goal.returns
returns g c =
    let ready = c.args.ready in
    let run = c.in_ok-run.run' in
    IfOk-weaker c.report.result (ReportsLanes ready.bindings ready.tasks (lane_records run.lanes.items) run.closed)
    (λ (done : FinishedRun). IsReported IsLegal (prepared_value ready) done.closed done.text.items done.status)
    (λ (done : FinishedRun) is.
    reported_is IsLegal (prepared_value ready) ready.setup c.as_slice.result.now (works_of ready.lanes.items) ready.changes.items c.requires.setup (c.as_slice.ensures.value ∙ c.requires.reactors) refl refl
    (lane_records run.lanes.items) done.closed done.text.items done.status (rw is.history_is (c.in_ok-run.ensures.legal _ c.requires.mean)) is.text_is is.status_is)
    (subst (λ (ls : List LaneValue). IfOk c.report.result (ReportsLanes ready.bindings ready.tasks (lane_records ls) run.closed)) c.as_slice-2.ensures.value c.report.ensures)
