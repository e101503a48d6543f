-- What one CPU has of a list.
use Rattle.std.specs.Prelude.{ℕ, ◌==◌, List, fold, if◌then◌else◌}
use Rattle.rv_route.specs.Lanes.{with_delivery}
use Rattle.rv_route.specs.Lanes as lanes
use Rattle.rv_route.specs.LineByLine.{no_lane}
use Rattle.rv_route.specs.Listing.{ListedDelivery}

-- the delivery goes last, where it is of this CPU
abbrev pub own_of : ℕ → lanes.LaneValue → ListedDelivery → lanes.LaneValue
own_of cpu lane d = if d.cpu == cpu then with_delivery lane d.line d.delivery else lane

-- the turns and deliveries that this CPU has of the list
unfoldable pub own : ℕ → List ListedDelivery → lanes.LaneValue
own cpu list = fold (own_of cpu) no_lane list
