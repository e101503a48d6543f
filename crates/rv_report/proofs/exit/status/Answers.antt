-- One record more.
use Rattle.std.proofs.Common.{take, sym, ap, ◌∙◌}
use Rattle.std.proofs.lemmas.List.{take_all, take_more}
use Rattle.rv_model.specs.Records.{status_of}
use Rattle.rv_report.proofs.ExitLemmas.{status-is}
use Rattle.rv_report.proofs.exit.status.Goals as goal

pub loop-record-preserved : goal.loop-record-preserved
loop-record-preserved c =
    let i = c.loop-record.record-index in
    let rs = c.args.records.now in
    c.status_with-status.ensures (take i rs) c.loop-record.invariant ∙ ap status_of (sym (take_more rs i _ c.loop-record-test.true))

pub returns : goal.returns
returns c =
    let rs = c.args.records.now in
    status-is rs c.loop-record.status (c.loop-record.invariant ∙ ap status_of (take_all c.loop-record.record-index rs c.loop-record-test.false))
