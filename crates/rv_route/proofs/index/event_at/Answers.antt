use Rattle.std.proofs.Common.{◌≡◌, List, Option, sym, ◌∙◌, subst}
use Rattle.std.specs.Prelude.{IfNone}
use Rattle.std.specs.Borrow.{Bor}
use Rattle.indexmap.specs.IndexMap.{values}
use Rattle.rv_route.specs.declared.event.Event.{Event}
use Rattle.rv_route.specs.Events.{HasEvent}
use Rattle.rv_route.proofs.NotedLemmas.{first-at, none-keyed}
use Rattle.rv_route.proofs.index.event_at.Goals as goal

pub returns-in_err-place-clause-none : goal.returns-in_err-place-clause-none
returns-in_err-place-clause-none c =
    let name = c.args.name.now in
    let inside = c.index.inside in
    let first = first-at inside.firsts.items c.key_of.result name c.index-2.result.now _ c.index.invariant.1.keys c.key_of.ensures.key c.key_of.ensures.few c.index-2.ensures in
    let none = none-keyed inside.firsts.items (values inside.events) c.index.invariant.1 name (sym first ∙ c.in_err-place.was) in
    subst (λ (found : Option (Bor Event)). IfNone found (¬ HasEvent c.args.index.now name)) (sym c.from_residual.ensures) (subst (λ (events : List Event). ¬ HasEvent events name) c.index.view_is none)
