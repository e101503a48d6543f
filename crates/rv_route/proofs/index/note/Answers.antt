use Rattle.std.proofs.Common.{List, ℕ, sym, ◌∙◌, subst}
use Rattle.rv_route.specs.declared.event.Event.{Event}
use Rattle.rv_route.specs.Events.{HasEvent}
use Rattle.rv_route.proofs.NotedLemmas.{has-event, has-none, has-last, has-front}
use Rattle.rv_route.proofs.index.note.Goals as goal

pub returns-then-is_some-clause-noted : goal.returns-then-is_some-clause-noted
returns-then-is_some-clause-noted c = has-event c.args.index.now c.args.name.now c.event_at.result (sym c.is_some.ensures ∙ c.if-is_some.true) c.event_at.ensures.among c.event_at.ensures.named

pub add-requires : goal.add-requires
add-requires c =
    let none = has-none c.args.index.now c.args.name.now c.event_at.result (sym c.is_some.ensures ∙ c.if-is_some.false) c.event_at.ensures.none in
    record { new = subst (λ (name : List ℕ). ¬ HasEvent c.args.index.now name) (sym c.in_ok-event.ensures.name) none }

pub returns-clause-noted : goal.returns-clause-noted
returns-clause-noted c =
    subst (λ (index : List Event). HasEvent index c.args.name.now) (sym c.in_ok-add.ensures) (has-last c.args.index.now c.in_ok-event.event c.args.name.now c.in_ok-event.ensures.name)

pub returns-clause-kept : goal.returns-clause-kept
returns-clause-kept c other has = subst (λ (index : List Event). HasEvent index other) (sym c.in_ok-add.ensures) (has-front c.args.index.now c.in_ok-event.event other has)
