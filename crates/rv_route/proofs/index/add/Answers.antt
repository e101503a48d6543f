use Rattle.std.proofs.Common.{◌≡◌, ◌∙◌, ◌++◌, ◌∷◌, [], List, Some, ap, sym, subst, set}
use Rattle.std.specs.Option.{is_some}
use Rattle.indexmap.specs.IndexMap.{values}
use Rattle.rv_route.specs.declared.event.Event.{Event}
use Rattle.rv_route.specs.Events.{HasEvent}
use Rattle.rv_route.specs.EventKeys.{key_of, HaveKeys}
use Rattle.rv_route.proofs.NotedLemmas.{entered, first-at, keyed-more, keyed-first}
use Rattle.rv_route.proofs.index.add.Goals as goal

pub invariant_of-index-then-is_none : goal.invariant_of-index-then-is_none
invariant_of-index-then-is_none c =
    let inside = c.index.inside in
    let event = c.args.event in
    let firsts = inside.firsts.items in
    let new = subst (λ (es : List Event). ¬ HasEvent es event.name) (sym c.index.view_is) c.requires.new in
    let it = entered inside.events.entries c.insert.new.self.entries c.in_ok-name.name event c.index.invariant.0 (c.in_ok-name.ensures.items ∙ c.bytes-2.ensures) new c.in_ok-insert.ensures.entries in
    let key : c.key_of-key.result ≡ key_of event.name = c.key_of-key.ensures.key ∙ ap key_of c.bytes.ensures in
    let have = keyed-first firsts (values inside.events) event c.key_of-key.result c.len-place.result c.index.invariant.1 key c.key_of-key.ensures.few in
    (it.by_name, subst (HaveKeys (set firsts c.key_of-key.result (Some c.len-place.result))) (sym it.events) have)

pub invariant_of-index-else-is_none : goal.invariant_of-index-else-is_none
invariant_of-index-else-is_none c =
    let inside = c.index.inside in
    let event = c.args.event in
    let firsts = inside.firsts.items in
    let new = subst (λ (es : List Event). ¬ HasEvent es event.name) (sym c.index.view_is) c.requires.new in
    let it = entered inside.events.entries c.insert.new.self.entries c.in_ok-name.name event c.index.invariant.0 (c.in_ok-name.ensures.items ∙ c.bytes-2.ensures) new c.in_ok-insert.ensures.entries in
    let key : c.key_of-key.result ≡ key_of event.name = c.key_of-key.ensures.key ∙ ap key_of c.bytes.ensures in
    let first = first-at firsts c.key_of-key.result event.name c.index-2.result.now _ c.index.invariant.1.keys key c.key_of-key.ensures.few c.index-2.ensures in
    (it.by_name, subst (HaveKeys firsts) (sym it.events) (keyed-more firsts (values inside.events) c.index.invariant.1 event (sym (ap is_some first) ∙ c.if-is_none.ensures)))

pub returns-then-is_none : goal.returns-then-is_none
returns-then-is_none c =
    let inside = c.index.inside in
    let new = subst (λ (es : List Event). ¬ HasEvent es c.args.event.name) (sym c.index.view_is) c.requires.new in
    let it = entered inside.events.entries c.insert.new.self.entries c.in_ok-name.name c.args.event c.index.invariant.0 (c.in_ok-name.ensures.items ∙ c.bytes-2.ensures) new c.in_ok-insert.ensures.entries in
    it.events ∙ ap (λ (es : List Event). es ++ c.args.event ∷ []) c.index.view_is

pub returns-else-is_none : goal.returns-else-is_none
returns-else-is_none c =
    let inside = c.index.inside in
    let new = subst (λ (es : List Event). ¬ HasEvent es c.args.event.name) (sym c.index.view_is) c.requires.new in
    let it = entered inside.events.entries c.insert.new.self.entries c.in_ok-name.name c.args.event c.index.invariant.0 (c.in_ok-name.ensures.items ∙ c.bytes-2.ensures) new c.in_ok-insert.ensures.entries in
    it.events ∙ ap (λ (es : List Event). es ++ c.args.event ∷ []) c.index.view_is
