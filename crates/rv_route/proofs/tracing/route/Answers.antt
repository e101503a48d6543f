use Rattle.std.proofs.Common.{◌≡◌, ◌+◌, drop, get_or, Result, refl, ◌∙◌, ap, arith}
use Rattle.std.proofs.lemmas.List.{get_or_default}
use Rattle.std.proofs.lemmas.Result.{err_from_is_err_and}
use Rattle.rv_text.specs.declared.refusals.Refusal.{Refusal}
use Rattle.rv_text.specs.Readings.{Refuses, and_then}
use Rattle.rv_trace.specs.declared.line.TraceLine.{TraceLine}
use Rattle.rv_route.specs.Routing.{RoutedValue}
use Rattle.rv_route.specs.LineByLine.{Routes, line_routes, routes_of, no_routes}
use Rattle.rv_route.proofs.RoutingLemmas.{line-more, lines-end, refuses-then, route-refused, route-done}
use Rattle.rv_route.proofs.tracing.route.Goals as goal

-- where no line stands
none : TraceLine
none = record { number = 0; pid = 0; cpu = 0; name = record { from = 0; to = 0 }; fields = record { from = 0; to = 0 } }

pub line-requires-clause-line : goal.line-requires-clause-line
unfolding none
line-requires-clause-line c = c.requires.lines c.loop-line.line-index none (omega arith)

pub loop-line-preserved : goal.loop-line-preserved
unfolding none
loop-line-preserved c =
    let monitors = c.args.bindings.now.monitors.items in
    let rules = c.args.bindings.now.rules.items in
    let lines = c.args.lines.now in
    let i = c.loop-line.line-index in
    let next : Routes → Result Routes Refusal = routes_of c.args.text.now monitors rules (drop (i + 1) lines) in
    let takes = c.in_ok-line.ensures.takes in (
      c.loop-line.invariant.0 ∙ line-more c.args.text.now monitors rules lines i none c.loop-line.router.routes (omega arith) ∙ ap (λ read. and_then read next) (takes.first c.loop-line.invariant.2),
      c.in_ok-line.ensures.made,
      takes.noted,
      λ j d low within.
          let after = c.requires.ascend i j none (omega arith) within in
          let same = ap (λ (l : TraceLine). l.number) (get_or_default lines j none d within) in
          let is = takes.next in
          omega arith,
    )

pub returns-in_err-line-clause-value : goal.returns-in_err-line-clause-value
unfolding none
returns-in_err-line-clause-value c =
    let monitors = c.args.bindings.now.monitors.items in
    let rules = c.args.bindings.now.rules.items in
    let lines = c.args.lines.now in
    let i = c.loop-line.line-index in
    let given = err_from_is_err_and c.from_residual-in_err-line.result c.from_residual-in_err-line.ensures.1 in
    let next : Routes → Result Routes Refusal = routes_of c.args.text.now monitors rules (drop (i + 1) lines) in
    let rest : routes_of c.args.text.now monitors rules lines no_routes ≡ and_then (line_routes c.args.text.now (get_or lines i none) monitors rules c.loop-line.router.routes) next =
    c.loop-line.invariant.0 ∙ line-more c.args.text.now monitors rules lines i none c.loop-line.router.routes (omega arith) in
    let whole : Refuses c.in_err-line.field-0.0 (routes_of c.args.text.now monitors rules lines no_routes) = rw rest (refuses-then c.in_err-line.field-0.0 _ next (c.in_err-line.ensures.takes.first c.loop-line.invariant.2)) in
    rw (given.1, given.2) (route-refused c.args.text.now monitors rules lines no_routes c.in_err-line.field-0.0 c.requires.ascend refl whole)

pub returns-clause-value : goal.returns-clause-value
returns-clause-value c =
    let monitors = c.args.bindings.now.monitors.items in
    let rules = c.args.bindings.now.rules.items in
    route-done c.args.text.now monitors rules c.args.lines.now no_routes c.loop-line.router.routes c.end.result.tasks c.end.result.works.items c.requires.ascend refl
    (c.loop-line.invariant.0 ∙ lines-end c.args.text.now monitors rules c.args.lines.now c.loop-line.line-index c.loop-line.router.routes (omega arith))
    (ap (λ (r : RoutedValue). r.tasks) c.end.ensures.value) (ap (λ (r : RoutedValue). r.works) c.end.ensures.value)
