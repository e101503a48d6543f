use Rattle.std.proofs.Common.{◌≡◌, ◌≤◌, ◌<◌, ℕ, length, drop, get_or, None}
use Rattle.rv_trace.specs.declared.line.TraceLine.{TraceLine}
use Rattle.rv_route.specs.Routers.{IsFor}
use Rattle.rv_route.specs.LineByLine.{routes_of, no_routes}
use Rattle.rv_route.proofs.tracing.route.Given as goal

abbrev pub invariant-loop-line : goal.invariant-loop-line
invariant-loop-line l =
    (routes_of l.text l.bindings.monitors.items l.bindings.rules.items l.lines no_routes ≡ routes_of l.text l.bindings.monitors.items l.bindings.rules.items (drop l.line-index l.lines) l.router.routes)
    × IsFor l.bindings l.router
    × (l.router.refused ≡ None)
    × ((j : ℕ) (d : TraceLine) → l.line-index ≤ j → j < length l.lines → l.router.next ≤ (get_or l.lines j d).number)
