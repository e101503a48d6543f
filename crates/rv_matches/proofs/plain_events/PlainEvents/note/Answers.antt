use Rattle.std.proofs.Common.{◌≡◌, ◌≢◌, ℕ, List, [], true, false, eqb, length, rules, sym, ap, ◌∙◌, subst, arith}
use Rattle.std.specs.Prelude.{All, filter}
use Rattle.std.specs.Vec.{vec_len}
use Rattle.std.proofs.lemmas.Bool.{eq-eqb, eqb-true}
use Rattle.std.proofs.lemmas.List.Elements.{All-push}
use Rattle.rv_bind.specs.RuleValues.{OnValue}
use Rattle.rv_route.specs.declared.event.Event.{Event}
use Rattle.rv_route.specs.Events.{IsEventOf, is_on_event, places_on}
use Rattle.rv_route.proofs.EventLemmas.{asked-many}
use Rattle.rv_route.proofs.IndexLemmas.{found-event}
use Rattle.rv_matches.specs.declared.plain_events.PlainEvent.{PlainEvent}
use Rattle.rv_matches.specs.RuleLines.{IsPlainEvent}
use Rattle.rv_matches.proofs.PlainLemmas.{no_names, untested}
use Rattle.rv_matches.proofs.plain_events.PlainEvents.note.Goals as goal

pub returns-in_ok-keep : goal.returns-in_ok-keep
returns-in_ok-keep c =
    let all = c.args.rules.now in
    let name = c.args.name.now in
    let event : Event = c.in-Some.event.now in
    let of : IsEventOf all name event = found-event name c.args.index.now all event c.requires.index c.in-Some.ensures.among c.in-Some.ensures.named in
    let those = filter (is_on_event name) all in
    let many : vec_len event.rules ≡ length event.rules.items = search rules in
    let some : those ≢ [] = λ none.
    (let nothing : length event.rules.items ≡ 0 = asked-many all event.fields event.rules.items those of.asked ∙ ap length none in
    let empty : eqb (vec_len event.rules) 0 ≡ true = eq-eqb (vec_len event.rules) 0 (omega arith) in
    let not_empty : eqb (vec_len event.rules) 0 ≡ false = sym c.is_empty.ensures ∙ c.if-is_empty.false in
    cc) in
    let unnamed : event.fields ≡ [] = no_names event.fields (ap length (sym c.names.ensures) ∙ eqb-true (length c.names.result.now) 0 (sym c.is_empty-2.ensures ∙ c.if-is_empty-2.true)) in
    let kept : PlainEvent = record { name = c.in_ok-new.field-0; rules = c.in_ok-places_of.field-0 } in
    let named : kept.name ≡ name = c.in_ok-new.ensures in
    let plain : IsPlainEvent all kept = record {
      places = c.in_ok-places_of.ensures ∙ of.places ∙ ap (λ (n : List ℕ). places_on n 0 all) (sym named);
      tests = subst (λ (n : List ℕ). All (λ (rule : OnValue). rule.tests ≡ []) (filter (is_on_event n) all)) (sym named) (untested all event.fields event.rules.items those unnamed of.asked);
      some = subst (λ (n : List ℕ). filter (is_on_event n) all ≢ []) (sym named) some;
    } in
    subst (All (IsPlainEvent all)) (sym c.in_ok-keep.ensures) (All-push (IsPlainEvent all) c.args.self.now kept c.requires.plain plain)
