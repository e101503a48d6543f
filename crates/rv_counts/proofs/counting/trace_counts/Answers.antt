use Rattle.std.proofs.Common.{ap, ◌∙◌}
use Rattle.rv_facts.specs.declared.counts.TraceCounts.{TraceCounts}
use Rattle.rv_matches.specs.Words.{CountedValue}
use Rattle.rv_counts.proofs.RunLemmas.{trace-told}
use Rattle.rv_counts.proofs.counting.trace_counts.Goals as goal

pub returns : goal.returns
returns c = λ bindings lines is.
    let told : TraceCounts = record { lines = c.lines.result; events = c.events.result; named = c.named.result; fired = c.fired.result; names = c.in_ok-counted.field-0; overwritten = c.overwritten.result; returns = c.returns.result; late = c.in_ok-late.field-0 } in
    trace-told bindings lines c.args.watch.now told c.lines.ensures c.events.ensures c.named.ensures c.fired.ensures (c.in_ok-counted.ensures ∙ ap (λ (v : CountedValue). v.words) c.names.ensures) c.overwritten.ensures c.returns.ensures c.in_ok-late.ensures is
