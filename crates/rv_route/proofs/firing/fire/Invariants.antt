use Rattle.std.proofs.Common.{◌≡◌, drop}
use Rattle.std.specs.Prelude.{filter}
use Rattle.rv_route.specs.Asking.{text_at}
use Rattle.rv_route.specs.Events.{is_on_event}
use Rattle.rv_route.specs.LineByLine.{line_routes}
use Rattle.rv_route.specs.inner.Gathering.{GathersLine}
use Rattle.rv_route.proofs.firing.fire.Given as goal

abbrev pub invariant-loop-asked : goal.invariant-loop-asked
invariant-loop-asked l =
    (line_routes l.text l.line l.bindings.monitors.items (filter (is_on_event (text_at l.text l.line.name)) l.bindings.rules.items) l.fn.deliveries.routes
    ≡ line_routes l.text l.line l.bindings.monitors.items (drop l.asked-index (filter (is_on_event (text_at l.text l.line.name)) l.bindings.rules.items)) l.deliveries.routes)
    × GathersLine l.line.number l.fn.deliveries l.deliveries
