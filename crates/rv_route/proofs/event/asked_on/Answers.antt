use Rattle.std.proofs.Common.{◌≡◌, ◌<◌, ℕ, true, false, List, [], ◌∷◌, ◌++◌, length, take, Some, sym, ap, ap₂, ◌∙◌, append-nil, arith}
use Rattle.std.specs.Prelude.{filter, slice_get}
use Rattle.std.proofs.lemmas.List.{map_push}
use Rattle.std.proofs.lemmas.Option.{slice_get-get_or}
use Rattle.rv_bind.specs.RuleValues.{OnValue}
use Rattle.rv_route.specs.Events.{IsAsked, is_on_event, asked_place, places_on}
use Rattle.rv_route.proofs.EventLemmas.{asked-more, on-more, placed-more}
use Rattle.rv_route.proofs.event.asked_on.Goals.{then-has_value+in_ok-asked_of+in_ok-push, else-has_value}
use Rattle.rv_route.proofs.event.asked_on.Goals as goal

pub loop-place-preserved : goal.loop-place-preserved
loop-place-preserved c =
    let all = c.args.rules.now in
    let event = c.args.event.now in
    let i = c.loop-place.place in
    let rule = c.index-rules-place.result in
    let inside : i < length all = omega arith in
    let named : c.bytes.result.now ≡ rule.event = c.bytes.ensures ∙ ap (λ (r : OnValue). r.event) c.rule.view_is in
    elim c.if-has_value.branch [
      | then-has_value+in_ok-asked_of+in_ok-push w ↦
          let yes : c.has_value.result ≡ true = w.if-has_value.true in
          let more = on-more all event c.bytes.result.now i rule true inside c.index-rules-place.is named (sym yes ∙ c.has_value.ensures) in
          let old = c.loop-place.names in
          let new = w.asked_of.new.names in
          let asked = w.in_ok-asked_of.field-0 in
          let there : slice_get all asked.rule ≡ Some rule = ap (slice_get all) w.in_ok-asked_of.ensures.rule ∙ slice_get-get_or all i rule inside ∙ ap Some (sym c.index-rules-place.is) in
          let is : IsAsked all new asked rule = record { there = there; fields = w.in_ok-asked_of.ensures.fields } in
          let longer = asked-more all old new c.loop-place.list.items (filter (is_on_event event) (take i all)) asked rule w.in_ok-asked_of.ensures.grown c.loop-place.invariant.asked is in
          let placed = placed-more all event c.bytes.result.now i rule true inside c.index-rules-place.is named (sym yes ∙ c.has_value.ensures) in
          let further = map_push asked_place c.loop-place.list.items asked ∙ ap₂ (λ (ps : List ℕ) (p : ℕ). ps ++ p ∷ []) c.loop-place.invariant.places w.in_ok-asked_of.ensures.rule ∙ sym placed in
          record { asked = rw (w.names-is, w.list-is, w.in_ok-push.ensures.items, more) longer; places = rw (w.list-is, w.in_ok-push.ensures.items) further }
      | else-has_value w ↦
          let no_match : c.has_value.result ≡ false = w.if-has_value.false in
          let more = on-more all event c.bytes.result.now i rule false inside c.index-rules-place.is named (sym no_match ∙ c.has_value.ensures) ∙ append-nil (filter (is_on_event event) (take i all)) in
          let placed = placed-more all event c.bytes.result.now i rule false inside c.index-rules-place.is named (sym no_match ∙ c.has_value.ensures) ∙ append-nil (places_on event 0 (take i all)) in
          record { asked = rw (w.names-is, w.list-is, more) c.loop-place.invariant.asked; places = rw w.list-is (c.loop-place.invariant.places ∙ sym placed) }
    ]
