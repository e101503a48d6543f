-- One monitor more.
use Rattle.std.proofs.Common.{◌<◌, length, arith}
use Rattle.rv_bind.specs.BoundViews.{bound_value}
use Rattle.rv_facts.specs.Facts.{monitor_facts}
use Rattle.rv_facts.proofs.PairLemmas.{more_pairs}
use Rattle.rv_facts.proofs.facts.put_monitors.Goals as goal

pub monitors-preserved : goal.monitors-preserved
monitors-preserved c =
    let lt : c.monitors.place < length c.args.monitors.now = omega arith in
    let lt' : c.monitors.place < length c.args.counts.now = omega arith in
    more_pairs (monitor_facts (bound_value c.args.bound.now) c.args.lines.now c.args.rules.now) c.args.monitors.now c.args.counts.now c.monitors.place c.index-monitors-place.result c.index-counts-place.result c.monitors.out _ _ lt lt'
    c.index-monitors-place.is c.index-counts-place.is c.monitors.invariant c.in_ok-put_monitor.ensures
