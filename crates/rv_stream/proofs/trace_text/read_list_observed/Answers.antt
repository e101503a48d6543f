use Rattle.rv_bind.specs.BoundViews.{bound_value}
use Rattle.rv_route.specs.Routed.{list_value}
use Rattle.rv_stream.proofs.RoutedLemmas.{trace_reads, trace_may, trace_observed}
use Rattle.rv_stream.proofs.trace_text.read_list_observed.Goals as goal

pub returns-clause-reads : goal.returns-clause-reads
returns-clause-reads g c =
    let read = c.in_ok-routing in
    trace_reads list_value c.args.trace.now read.routing.lines.fed (bound_value c.args.bound.now) c.end_listing.result c.end_listing.ensures.value
    (g.S.Store.files c.args.store.now) (g.S.Store.files c.route_trace.new.store) (g.S.Store.faults c.args.store.now) (g.S.Store.faults c.route_trace.new.store) read.ensures.fails.kept read.ensures.fails.counts read.ensures.all

pub returns-clause-some : goal.returns-clause-some
returns-clause-some g c = trace_may list_value c.args.trace.now c.in_ok-routing.routing.lines.fed (bound_value c.args.bound.now) c.end_listing.result c.end_listing.ensures.value

pub returns-clause-observed : goal.returns-clause-observed
returns-clause-observed g c =
    let read = c.in_ok-routing in
    trace_observed list_value (g.O.LineObserver.observed c.args.context.now) (g.S.Store.files c.args.store.now) c.args.trace.now read.routing.lines.fed (bound_value c.args.bound.now) c.end_listing.result c.end_listing.new.observer
    c.end_listing.ensures.value read.ensures.all c.end_listing.ensures.told
