use Rattle.std.proofs.Common.{◌<◌, ◌≤◌, refl, sym, subst}
use Rattle.std.specs.Prelude.{All, AllPairs, None}
use Rattle.rv_bind.specs.WellFormed.{kinds_of}
use Rattle.rv_route.specs.Listing.{ListedDelivery}
use Rattle.rv_route.specs.Routed.{list_value}
use Rattle.rv_route.proofs.RuleLemmas.{read_from_rules}
use Rattle.rv_trace.specs.Traces.{trace_of}
use Rattle.rv_stream.proofs.PiecesLemmas.{all-routed}
use Rattle.rv_stream.proofs.routing.Routing.end_list.Goals as goal

pub returns-clause-value : goal.returns-clause-value
returns-clause-value g c =
    all-routed c.args.bindings.now c.args.self.lines.fed c.route_rest.new.collector None (list_value c.end_list.result) refl c.in_ok-route_rest.ensures.routed c.end_list.ensures.value

pub returns-clause-listed : goal.returns-clause-listed
returns-clause-listed g c =
    let bindings = c.args.bindings.now in
    let text = c.args.self.lines.fed in
    let routed = c.in_ok-route_rest.ensures.routed in
    let lines = routed.made.lines in
    let is = sym c.end_list.ensures.list in
    record {
      fit = c.end_list.ensures.fit (kinds_of bindings.monitors.items) (routed.made.fits (sym routed.late_is));
      rules = read_from_rules text bindings.monitors.items bindings.rules.items (trace_of text) (list_value c.end_list.result) (returns-clause-value g c);
      ascend = subst (AllPairs (λ (d e : ListedDelivery). d.line ≤ e.line)) is lines.ascend;
      cpus = subst (All (λ (d : ListedDelivery). d.cpu < 64)) is lines.cpus;
    }
