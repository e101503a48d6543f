use Rattle.std.proofs.Common.{◌≡◌, List, Some, length, refl, sym, ap, ◌∙◌, subst}
use Rattle.std.specs.Prelude.{option_map, slice_get}
use Rattle.std.proofs.lemmas.Option.{slice_get_read}
use Rattle.rv_matches.specs.declared.plain_events.PlainEvent.{PlainEvent}
use Rattle.rv_matches.specs.inner.RuleSteps.{IsNamedAt}
use Rattle.rv_matches.proofs.WordLemmas.{same_bytes}
use Rattle.rv_matches.proofs.plain_events.PlainEvents.is_at.Goals as goal

pub returns-in-Some : goal.returns-in-Some
returns-in-Some c = λ yes.
    let slice : List PlainEvent = c.deref.result.now in
    let place = c.args.place in
    let name = c.args.name.now in
    let event : PlainEvent = c.in-Some.event.now in
    let read = c.in-Some.ensures.lookup in
    let there : slice_get slice place ≡ Some event = slice_get_read slice (length slice) place event refl read.3.0 read.1 in
    let same : event.name ≡ name = sym (same_bytes name event.name (sym c.is.ensures ∙ yes)) in
    subst (λ (events : List PlainEvent). IsNamedAt events place name) (c.deref.ensures.value ∙ c.self.view_is)
    (ap (option_map (λ (e : PlainEvent). e.name)) there ∙ ap Some same)
