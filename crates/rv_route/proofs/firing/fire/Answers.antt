use Rattle.std.proofs.Common.{◌≡◌, ◌+◌, ◌<◌, List, length, drop, Result, sym, ap, ◌∙◌, subst, arith, rules}
use Rattle.std.specs.Prelude.{filter}
use Rattle.std.specs.List.{AllZip}
use Rattle.std.specs.Vec.{vec_len}
use Rattle.std.proofs.lemmas.Option.{slice_get_within, get_or_from_slice_get}
use Rattle.std.proofs.lemmas.Result.{err_from_is_err_and}
use Rattle.rv_text.specs.declared.refusals.Refusal.{Refusal}
use Rattle.rv_route.specs.declared.event.Asked.{Asked}
use Rattle.rv_route.specs.Asking.{text_at}
use Rattle.rv_route.specs.inner.Asking.{ask_on}
use Rattle.rv_route.specs.Events.{is_on_event, IsAsked, HasFound}
use Rattle.rv_route.specs.LineByLine.{Routes, line_routes}
use Rattle.rv_text.specs.Readings.{and_then}
use Rattle.rv_route.proofs.AskLemmas.{asked-small}
use Rattle.rv_route.proofs.EventLemmas.{asked_at, asked-many, has_found, itself}
use Rattle.rv_route.proofs.IndexLemmas.{fired}
use Rattle.rv_route.proofs.RoutingLemmas.{rules-end, refuses-then}
use Rattle.rv_route.proofs.ListingLemmas.{takes-join, is-target}
use Rattle.rv_route.proofs.firing.fire.Goals as goal

pub index-rule-requires : goal.index-rule-requires
index-rule-requires c =
    let all = c.args.bindings.now.rules.items in
    let event = c.args.event.now in
    let name = text_at c.args.text.now c.args.line.now.name in
    let those = filter (is_on_event name) all in
    let are = subst (λ (list : List Asked). AllZip (IsAsked all event.fields) list those) (sym c.deref-asked-items.ensures.value) c.requires.event.asked in
    let at = asked_at all event.fields c.deref-asked-items.result.now those c.loop-asked.asked-index c.asked-item.result are (omega arith) c.asked-item.is in
    let inside : c.asked-item.result.rule < length all = slice_get_within all c.asked-item.result.rule at.rule at.asks.there in
    let many : vec_len c.args.bindings.now.rules ≡ length all = search rules in
    omega arith

pub ask_for-ask-requires-clause-found : goal.ask_for-ask-requires-clause-found
ask_for-ask-requires-clause-found c =
    let all = c.args.bindings.now.rules.items in
    let event = c.args.event.now in
    let name = text_at c.args.text.now c.args.line.now.name in
    let those = filter (is_on_event name) all in
    let are = subst (λ (list : List Asked). AllZip (IsAsked all event.fields) list those) (sym c.deref-asked-items.ensures.value) c.requires.event.asked in
    let at = asked_at all event.fields c.deref-asked-items.result.now those c.loop-asked.asked-index c.asked-item.result are (omega arith) c.asked-item.is in
    let rule : c.index-rule.result.now ≡ at.rule = c.index-rule.ensures ∙ get_or_from_slice_get all c.asked-item.result.rule at.rule _ at.asks.there in
    let fields = text_at c.args.text.now c.args.line.now.fields in
    subst (HasFound fields c.in_ok-found.found.now c.asked-item.result) (sym rule) (has_found fields event.fields c.in_ok-found.found.now c.in_ok-found.ensures.found c.asked-item.result at.rule at.asks.fields)

pub answer-requires-clause-target : goal.answer-requires-clause-target
answer-requires-clause-target c =
    let all = c.args.bindings.now.rules.items in
    let event = c.args.event.now in
    let name = text_at c.args.text.now c.args.line.now.name in
    let those = filter (is_on_event name) all in
    let are = subst (λ (list : List Asked). AllZip (IsAsked all event.fields) list those) (sym c.deref-asked-items.ensures.value) c.requires.event.asked in
    let at = asked_at all event.fields c.deref-asked-items.result.now those c.loop-asked.asked-index c.asked-item.result are (omega arith) c.asked-item.is in
    let inside : c.asked-item.result.rule < length all = slice_get_within all c.asked-item.result.rule at.rule at.asks.there in
    is-target all c.loop-asked.deliveries.targets c.asked-item.result.rule c.index-rule.result.now (c.loop-asked.invariant.1.targets ∙ c.requires.targets) inside c.index-rule.ensures

pub answer-requires-clause-instance : goal.answer-requires-clause-instance
answer-requires-clause-instance c i e =
    let fields = text_at c.args.text.now c.args.line.now.fields in
    let cpu : c.args.line.now.cpu < 64 = let l = c.requires.line.lies.cpu in omega arith in
    asked-small fields c.args.line.now c.deref.result.now c.index-rule.result.now i cpu (sym c.ask_for-ask.ensures ∙ e)

pub loop-asked-preserved : goal.loop-asked-preserved
loop-asked-preserved c =
    let all = c.args.bindings.now.rules.items in
    let event = c.args.event.now in
    let name = text_at c.args.text.now c.args.line.now.name in
    let those = filter (is_on_event name) all in
    let are = subst (λ (list : List Asked). AllZip (IsAsked all event.fields) list those) (sym c.deref-asked-items.ensures.value) c.requires.event.asked in
    let at = asked_at all event.fields c.deref-asked-items.result.now those c.loop-asked.asked-index c.asked-item.result are (omega arith) c.asked-item.is in
    let rule : c.index-rule.result.now ≡ at.rule = c.index-rule.ensures ∙ get_or_from_slice_get all c.asked-item.result.rule at.rule _ at.asks.there in
    let text = c.args.text.now in
    let line = c.args.line.now in
    let monitors = c.args.bindings.now.monitors.items in
    let i = c.loop-asked.asked-index in
    let next : Routes → Result Routes Refusal = line_routes text line monitors (drop (i + 1) those) in
    let ask = c.ask_for-ask.ensures ∙ ap (λ ms. ask_on (text_at text line.fields) line ms c.index-rule.result.now) c.deref.ensures.value in
    let now = fired text line monitors all event.fields name i c.asked-item.result c.index-rule.result.now c.ask_for-ask.result c.loop-asked.deliveries.routes (itself name) at rule ask in
    (c.loop-asked.invariant.0 ∙ now ∙ ap (λ read. and_then read next) c.in_ok-answer.ensures.gives, takes-join c.loop-asked.invariant.1 c.in_ok-answer.ensures.kept)

pub returns-in_err-answer-clause-gives : goal.returns-in_err-answer-clause-gives
returns-in_err-answer-clause-gives c =
    let all = c.args.bindings.now.rules.items in
    let event = c.args.event.now in
    let name = text_at c.args.text.now c.args.line.now.name in
    let those = filter (is_on_event name) all in
    let are = subst (λ (list : List Asked). AllZip (IsAsked all event.fields) list those) (sym c.deref-asked-items.ensures.value) c.requires.event.asked in
    let at = asked_at all event.fields c.deref-asked-items.result.now those c.loop-asked.asked-index c.asked-item.result are (omega arith) c.asked-item.is in
    let rule : c.index-rule.result.now ≡ at.rule = c.index-rule.ensures ∙ get_or_from_slice_get all c.asked-item.result.rule at.rule _ at.asks.there in
    let text = c.args.text.now in
    let line = c.args.line.now in
    let monitors = c.args.bindings.now.monitors.items in
    let i = c.loop-asked.asked-index in
    let next : Routes → Result Routes Refusal = line_routes text line monitors (drop (i + 1) those) in
    let ask = c.ask_for-ask.ensures ∙ ap (λ ms. ask_on (text_at text line.fields) line ms c.index-rule.result.now) c.deref.ensures.value in
    let now = fired text line monitors all event.fields name i c.asked-item.result c.index-rule.result.now c.ask_for-ask.result c.loop-asked.deliveries.routes (itself name) at rule ask in
    let given = err_from_is_err_and c.from_residual-in_err-answer.result c.from_residual-in_err-answer.ensures.1 in
    let rest = c.loop-asked.invariant.0 ∙ now in
    rw (given.1, given.2, rest) (refuses-then c.in_err-answer.field-0.0 _ next c.in_err-answer.ensures.gives)

pub returns-in_err-answer-clause-kept : goal.returns-in_err-answer-clause-kept
returns-in_err-answer-clause-kept c = takes-join c.loop-asked.invariant.1 c.in_err-answer.ensures.kept

pub returns-clause-gives : goal.returns-clause-gives
returns-clause-gives c =
    let all = c.args.bindings.now.rules.items in
    let event = c.args.event.now in
    let name = text_at c.args.text.now c.args.line.now.name in
    let those = filter (is_on_event name) all in
    let many : length c.deref-asked-items.result.now ≡ length those = ap length c.deref-asked-items.ensures.value ∙ asked-many all event.fields event.rules.items those c.requires.event.asked in
    c.loop-asked.invariant.0 ∙ rules-end c.args.text.now c.args.line.now c.args.bindings.now.monitors.items those c.loop-asked.asked-index c.loop-asked.deliveries.routes (omega arith)
