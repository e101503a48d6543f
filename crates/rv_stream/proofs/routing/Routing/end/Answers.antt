use Rattle.std.proofs.Common.{refl}
use Rattle.std.specs.Prelude.{None}
use Rattle.rv_route.specs.Routed.{routed_value}
use Rattle.rv_route.proofs.RuleLemmas.{read_from_rules}
use Rattle.rv_trace.specs.Traces.{trace_of}
use Rattle.rv_stream.proofs.PiecesLemmas.{all-routed}
use Rattle.rv_stream.proofs.routing.Routing.end.Goals as goal

pub returns-clause-value : goal.returns-clause-value
returns-clause-value c =
    all-routed c.args.bindings.now c.args.self.lines.fed c.route_rest.new.collector None (routed_value c.end.result) refl c.in_ok-route_rest.ensures.routed c.end.ensures.value

pub returns-clause-rules : goal.returns-clause-rules
returns-clause-rules c =
    let bindings = c.args.bindings.now in
    let text = c.args.self.lines.fed in
    read_from_rules text bindings.monitors.items bindings.rules.items (trace_of text) (routed_value c.end.result) (returns-clause-value c)
