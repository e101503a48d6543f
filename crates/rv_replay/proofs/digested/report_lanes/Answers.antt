-- One lane more, and the records of all lanes in their order.
use Rattle.std.proofs.Common.{◌≡◌, List, ◌∙◌, sym, subst, take}
use Rattle.std.proofs.lemmas.Result.{IfOk-weaker}
use Rattle.rv_model.specs.declared.record.Record.{Record}
use Rattle.rv_model.specs.Records.{sort_records}
use Rattle.rv_model.specs.Reports.{report_text}
use Rattle.rv_model.proofs.SortedLemmas.{status-sorted}
use Rattle.rv_feed.specs.Lane.{LaneValue, lane_records}
use Rattle.rv_report.specs.Exit.{IsStatus}
use Rattle.rv_report.specs.Reported.{reported_of}
use Rattle.rv_report.specs.Tallies.{IsFound, IsDigest}
use Rattle.rv_report.proofs.ExitLemmas.{status-is}
use Rattle.rv_report.proofs.FoundLemmas.{lanes-more, lanes-sorted}
use Rattle.rv_replay.proofs.digested.report_lanes.Goals as goal

pub loop-lane-preserved : goal.loop-lane-preserved
loop-lane-preserved c =
    let b = c.args.bindings.now in
    let lanes : List LaneValue = c.args.lanes.now in
    let i = c.loop-lane.lane-index in
    let lane : LaneValue = c.lane-item.result in
    let digest : IsDigest lane.records c.in_ok-digest.field-0.now = subst (λ (rs : List Record). IsDigest rs c.in_ok-digest.field-0.now) c.recorder.ensures c.in_ok-digest.ensures in
    let more = c.in_ok-join.ensures lane.records digest c.args.tasks.now (lane_records (take i lanes)) c.loop-lane.invariant in
    subst (λ (rs : List Record). IsFound (reported_of b) c.args.tasks.now rs c.join.new.self) (sym (lanes-more (λ (l : LaneValue). l.records) lanes i lane c.loop-lane-test.true c.lane-item.is)) more

pub report_found-requires : goal.report_found-requires
report_found-requires c =
    let b = c.args.bindings.now in
    (_, lanes-sorted (λ (l : LaneValue). l.records) (reported_of b) c.args.tasks.now c.args.lanes.now c.loop-lane.lane-index _ _ c.loop-lane-test.false (c.in_ok-sort.ensures (reported_of b) c.args.tasks.now) c.loop-lane.invariant)

pub returns-clause-text : goal.returns-clause-text
returns-clause-text c =
    let monitors = reported_of c.args.bindings.now in
    let tasks = c.args.tasks.now in
    let rs : List Record = sort_records (lane_records c.args.lanes.now) in
    let found : IsFound monitors tasks rs c.sort.new.self =
    lanes-sorted (λ (l : LaneValue). l.records) monitors tasks c.args.lanes.now c.loop-lane.lane-index _ _ c.loop-lane-test.false (c.in_ok-sort.ensures monitors tasks) c.loop-lane.invariant in
    IfOk-weaker c.report_found.result (λ report. (us : List Record) → IsFound monitors tasks us c.sort.new.self → report.text.items ≡ report_text monitors tasks us)
    (λ report. report.text.items ≡ report_text monitors tasks rs) (λ report is. is rs found) c.report_found.ensures.text

pub returns-clause-status : goal.returns-clause-status
returns-clause-status c =
    let monitors = reported_of c.args.bindings.now in
    let tasks = c.args.tasks.now in
    let rs : List Record = lane_records c.args.lanes.now in
    let found : IsFound monitors tasks (sort_records rs) c.sort.new.self =
    lanes-sorted (λ (l : LaneValue). l.records) monitors tasks c.args.lanes.now c.loop-lane.lane-index _ _ c.loop-lane-test.false (c.in_ok-sort.ensures monitors tasks) c.loop-lane.invariant in
    IfOk-weaker c.report_found.result (λ report. (us : List Record) → IsFound monitors tasks us c.sort.new.self → IsStatus us report.status)
    (λ report. IsStatus rs report.status) (λ report is. status-is rs report.status ((is (sort_records rs) found).value ∙ status-sorted rs)) c.report_found.ensures.status
