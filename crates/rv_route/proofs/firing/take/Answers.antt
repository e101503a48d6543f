use Rattle.std.proofs.Common.{◌≡◌, Option, refl, subst}
use Rattle.std.specs.Prelude.{IfSome, IfNone}
use Rattle.std.specs.List.{IsAmong}
use Rattle.std.specs.Borrow.{Bor}
use Rattle.rv_route.specs.declared.event.Event.{Event}
use Rattle.rv_route.specs.Asking.{text_at}
use Rattle.rv_route.specs.Events.{HasEvent}
use Rattle.rv_route.specs.LineByLine.{GivesRoutes}
use Rattle.rv_route.proofs.IndexLemmas.{found-event, line-event, line-none}
use Rattle.rv_route.proofs.firing.take.Goals as goal

pub fire-requires-clause-event : goal.fire-requires-clause-event
fire-requires-clause-event c =
    let name = text_at c.args.text.now c.args.line.now.name in
    let index = c.args.index.now in
    let among = subst (λ (found : Option (Bor Event)). IfSome found (λ event. IsAmong index event.now)) c.in-Some.is c.event_at.ensures.among in
    let named = subst (λ (found : Option (Bor Event)). IfSome found (λ event. event.now.name ≡ name)) c.in-Some.is c.event_at.ensures.named in
    found-event name index c.args.bindings.now.rules.items c.in-Some.event.now c.requires.index among named

pub returns-in-Some-clause-gives : goal.returns-in-Some-clause-gives
returns-in-Some-clause-gives c =
    let name = text_at c.args.text.now c.args.line.now.name in
    subst (GivesRoutes c.fire.result c.fire.new.deliveries.routes) (line-event c.args.text.now c.args.line.now c.args.bindings.now.monitors.items c.args.bindings.now.rules.items name c.args.deliveries.now.routes refl) c.fire.ensures.gives

pub returns-in-None-clause-gives : goal.returns-in-None-clause-gives
returns-in-None-clause-gives c =
    let name = text_at c.args.text.now c.args.line.now.name in
    let none = subst (λ (found : Option (Bor Event)). IfNone found (¬ HasEvent c.args.index.now name)) c.in-None.is c.event_at.ensures.none in
    line-none c.args.text.now c.args.line.now c.args.bindings.now.monitors.items c.args.bindings.now.rules.items c.args.index.now c.args.deliveries.now.routes c.requires.index none
