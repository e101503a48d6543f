use Rattle.std.proofs.Common.{map, ap, ◌∙◌, subst, arith}
use Rattle.rv_bind.specs.WellFormed.{kinds_of}
use Rattle.rv_route.specs.Events.{IsIndexOf}
use Rattle.rv_route.specs.Listing.{target_of}
use Rattle.rv_route.proofs.ListingLemmas.{below-none}
use Rattle.rv_route.proofs.RoutedLemmas.{lanes_no_routes}
use Rattle.rv_route.proofs.WorksLemmas.{fits_no_routes}
use Rattle.rv_route.proofs.collector.Collector.begin.Goals as goal

pub invariant_of-result : goal.invariant_of-result
invariant_of-result c = (c.in_ok-works.ensures.items, (let e = c.in_ok-works.ensures.exact in omega arith), λ _. lanes_no_routes c.in_ok-deliveries.deliveries.routes c.in_ok-deliveries.ensures.routes)

pub returns-clause-made : goal.returns-clause-made
returns-clause-made c = record {
  index = subst (λ rules. IsIndexOf rules c.in_ok-index.index) c.as_slice.ensures.value c.in_ok-index.ensures;
  rules = c.requires.rules;
  targets = c.in_ok-deliveries.ensures.targets ∙ ap (map target_of) c.as_slice-2.ensures.value;
  lines = below-none c.in_ok-deliveries.deliveries.list c.in_ok-deliveries.ensures.list;
  fits = λ _. fits_no_routes (kinds_of c.args.bindings.now.monitors.items) c.in_ok-deliveries.deliveries.routes c.in_ok-deliveries.ensures.routes;
}
