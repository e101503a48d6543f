use Rattle.std.proofs.Common.{List, subst}
use Rattle.std.specs.Prelude.{IfNone}
use Rattle.rv_route.specs.declared.event.Event.{Event}
use Rattle.rv_route.specs.Events.{HasEvent}
use Rattle.rv_route.proofs.NotedLemmas.{map-named, map-none}
use Rattle.rv_route.proofs.index.named.Goals as goal

pub returns-clause-named : goal.returns-clause-named
returns-clause-named c = map-named c.args.name.now c.index.inside.events.entries c.index.invariant.0 c.get.result c.get.ensures.value

pub returns-clause-none : goal.returns-clause-none
returns-clause-none c =
    subst (λ (events : List Event). IfNone c.get.result (¬ HasEvent events c.args.name.now)) c.index.view_is (map-none c.args.name.now c.index.inside.events.entries c.index.invariant.0 c.get.result c.get.ensures.value)
