use Rattle.std.proofs.Common.{◌+◌, Bool, drop, sym, ap, ◌∙◌, arith}
use Rattle.std.specs.Prelude.{◌&&◌}
use Rattle.rv_tool.specs.CountsFit.{monitors_fit_counts}
use Rattle.rv_tool.proofs.CountsFitLemmas.{other-long, narrow-step, none-left}
use Rattle.rv_tool.proofs.counts_fit.monitors_fit_counts.Goals as goal

pub returns-then-monitors-tables : goal.returns-then-monitors-tables
returns-then-monitors-tables c = sym (other-long c.args.monitors.now c.args.tables.now (λ same. c.if-monitors-tables.true same))

pub returns-then-not-monitor_fits_counts : goal.returns-then-not-monitor_fits_counts
returns-then-not-monitor_fits_counts c =
    let place = c.loop-place.place in
    let long = c.if-monitors-tables.false in
    let within = c.loop-place-test.true in
    sym (c.loop-place.invariant ∙ narrow-step place c.args.monitors.now c.args.tables.now c.index-monitors-place.result c.index-tables-place.result c.index-monitors-place.is c.index-tables-place.is within (omega arith)
    ∙ ap (λ (b : Bool). b && monitors_fit_counts (drop (place + 1) c.args.monitors.now) (drop (place + 1) c.args.tables.now)) (sym c.monitor_fits_counts.ensures ∙ c.if-not-monitor_fits_counts.true))

pub loop-place-preserved : goal.loop-place-preserved
loop-place-preserved c =
    let place = c.loop-place.place in
    let long = c.if-monitors-tables.false in
    let within = c.loop-place-test.true in
    c.loop-place.invariant ∙ narrow-step place c.args.monitors.now c.args.tables.now c.index-monitors-place.result c.index-tables-place.result c.index-monitors-place.is c.index-tables-place.is within (omega arith)
    ∙ ap (λ (b : Bool). b && monitors_fit_counts (drop (place + 1) c.args.monitors.now) (drop (place + 1) c.args.tables.now)) (sym c.monitor_fits_counts.ensures ∙ c.if-not-monitor_fits_counts.false)

pub returns : goal.returns
returns c =
    let long = c.if-monitors-tables.false in
    let past = c.loop-place-test.false in
    sym (c.loop-place.invariant ∙ none-left c.loop-place.place c.args.monitors.now c.args.tables.now (omega arith) (omega arith))
