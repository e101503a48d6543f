use Rattle.std.proofs.Common.{ap, subst, sym, ◌∙◌}
use Rattle.rv_facts.specs.BindingLines.{AreLinesOf}
use Rattle.rv_counts.specs.Counts.{TellsRun}
use Rattle.rv_tool.specs.Inputs.{InputValue}
use Rattle.rv_coverage.specs.inner.Words.{coverage_command_value}
use Rattle.rv_coverage.proofs.CoveredLemmas.{bound_again, covers, judged, kept, watch-rules}
use Rattle.rv_coverage.proofs.covering.covered.Goals as goal

pub returns : goal.returns
returns c = λ texts read.
    let ready = c.in_ok-bindings.field-0 in
    let is = c.in_ok-bindings.ensures.ready in
    let value = c.in_ok-bindings.ensures.value in
    let run = c.in_ok-setup.field-0 in
    let reaches = c.in_ok-setup.ensures in
    let watches = watch-rules c.args.read.bound.bindings ready.bindings _ c.args.read.watch (ap (λ (i : InputValue). i.bound.rules) (sym value)) read.watch in
    let numbers = c.in_ok-counts.ensures (judged ready is run reaches) texts.trace (kept ready is run reaches texts.trace c.args.read.watch watches) in
    let report = c.in_ok-text.ensures in
    covers ready is run reaches (coverage_command_value c.args.command) texts report.told c.in_ok-text.field-0.text.items c.in_ok-text.field-0.status (read.input ∙ sym value)
    (record {
      bindings = report.bindings;
      trace = report.trace;
      lines = subst (AreLinesOf texts.bindings) (sym report.lines_are) read.lines;
      bound = report.bound_is ∙ bound_again ready is run reaches c.bound_again-bound.result c.bound_again-bound.ensures.bindings c.bound_again-bound.ensures.tables;
      counts = subst (TellsRun (judged ready is run reaches) texts.trace) (sym report.counts_are) numbers;
    })
    report.text report.status
