use Rattle.std.proofs.Common.{◌≡◌, ◌-◌, ◌^◌, ◌≤◌, length, map}
use Rattle.rv_feed.specs.Lane.{panics_of}
use Rattle.rv_feed.specs.inner.SoFar.{RunSoFar, HasLines}
use Rattle.rv_feed.proofs.order.run_lanes.Given as goal

abbrev pub invariant-loop-places : goal.invariant-loop-places
invariant-loop-places g l =
    RunSoFar (panics_of l.reactors) l.fn.core l.core (map g.L.Keeper.lane l.fn.lanes) (map g.L.Keeper.lane l.lanes) l.places l.from × (length l.lines ≡ 64) × HasLines l.places l.lines (map g.L.Keeper.lane l.lanes) × (l.from ≤ 2 ^ 32)

abbrev pub decreases-loop-places : goal.decreases-loop-places
decreases-loop-places g l = 2 ^ 32 - l.from
