-- Which lists of deliveries can be run.
use Rattle.std.specs.Prelude.{◌<◌, ◌≤◌, List, [], All, AllPairs, length, map}
use Rattle.rv_model.specs.Setups.{Setup}
use Rattle.rv_model.specs.Works.{Work}
use Rattle.rv_feed.specs.Lane.{LaneValue, FitLanes}
use Rattle.rv_route.specs.Listing.{ListedDelivery, works_listed}

-- the work with no record, and room for one of each delivery
abbrev pub fresh_lane : Work → LaneValue
fresh_lane w = record { work = w; records = []; room = length w.deliveries }

-- one for each work
abbrev pub fresh_lanes : List Work → List LaneValue
fresh_lanes works = map fresh_lane works

-- the works of the list fit the setup, its CPUs are below 64, and its lines never descend
pub record FitsList (s : Setup) (list : List ListedDelivery) : Type 0 where
  pub cpus : All (λ d. d.cpu < 64) list
  pub lanes : FitLanes s (fresh_lanes (works_listed list))
  pub ascend : AllPairs (λ d e. d.line ≤ e.line) list
