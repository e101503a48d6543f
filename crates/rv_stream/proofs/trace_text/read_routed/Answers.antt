use Rattle.rv_bind.specs.BoundViews.{bound_value}
use Rattle.rv_route.specs.Routed.{routed_value}
use Rattle.rv_stream.proofs.RoutedLemmas.{trace_reads, trace_may}
use Rattle.rv_stream.proofs.trace_text.read_routed.Goals as goal

pub returns-clause-reads : goal.returns-clause-reads
returns-clause-reads g c =
    let read = c.in_ok-routing in
    trace_reads routed_value c.args.trace.now read.routing.lines.fed (bound_value c.args.bound.now) c.end_routing.result c.end_routing.ensures.value
    (g.S.Store.files c.args.store.now) (g.S.Store.files c.route_trace.new.store) (g.S.Store.faults c.args.store.now) (g.S.Store.faults c.route_trace.new.store) read.ensures.fails.kept read.ensures.fails.counts read.ensures.all

pub returns-clause-some : goal.returns-clause-some
returns-clause-some g c = trace_may routed_value c.args.trace.now c.in_ok-routing.routing.lines.fed (bound_value c.args.bound.now) c.end_routing.result c.end_routing.ensures.value
