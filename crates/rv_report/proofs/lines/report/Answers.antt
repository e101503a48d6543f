-- All records are found.
use Rattle.std.proofs.Common.{[]}
use Rattle.rv_report.specs.Reported.{reported_of}
use Rattle.rv_report.specs.Tallies.{IsFound}
use Rattle.rv_report.proofs.lines.report.Goals as goal

pub report_found-requires : goal.report_found-requires
report_found-requires c = (c.args.records.now, c.in_ok-add_all.ensures c.args.tasks.now [] c.in_ok-found.ensures)

pub returns : goal.returns
returns c =
    let found : IsFound (reported_of c.args.bindings.now) c.args.tasks.now c.args.records.now c.add_all.new.self = c.in_ok-add_all.ensures c.args.tasks.now [] c.in_ok-found.ensures in
    c.in_ok-done.ensures.text c.args.records.now found
