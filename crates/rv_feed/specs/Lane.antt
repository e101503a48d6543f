-- What one CPU has to do and did, and what a run asks of its lanes.
use Rattle.std.specs.Prelude.{◌≡◌, ◌≢◌, ℕ, ◌<◌, ◌≤◌, Bool, false, List, [], map, flat_map, length, All, AllPairs, slice_get}
use Rattle.std.specs.Option.{option_map_or}
use Rattle.rv_model.specs.declared.reactor.Reactor.{Reactor}
use Rattle.rv_model.specs.declared.record.Record.{Record}
use Rattle.rv_model.specs.Histories.{LinesApart}
use Rattle.rv_model.specs.Reactors.{is_panic}
use Rattle.rv_model.specs.Setups.{Setup}
use Rattle.rv_model.specs.Works.{Work}
use Rattle.rv_core.specs.Deliveries.{FitsDelivery}

-- a CPU's work, the records of it so far, and for how many records there is room
pub record LaneValue : Type 0 where
  pub work : Work
  pub records : List Record
  pub room : ℕ

-- the lane of this work has no record yet, and room for one of each delivery
pub record IsNewLane (work : Work) (lane : LaneValue) : Type 0 where
  pub work_is : lane.work ≡ work
  pub no_records : lane.records ≡ []
  pub room : length work.deliveries ≤ lane.room

-- whether a monitor's reactor is panic, which that of a monitor past the end of the list is not
abbrev pub panics_of : List Reactor → ℕ → Bool
panics_of reactors monitor = option_map_or is_panic (slice_get reactors monitor) false

-- the lane is new, its CPU is below 64, the lines of its turns ascend, and its deliveries fit the setup
pub record FitsLane (s : Setup) (lane : LaneValue) : Type 0 where
  pub new_lane : IsNewLane lane.work lane
  pub cpu : lane.work.cpu < 64
  pub lines : AllPairs (λ t u. t.line < u.line) lane.work.turns
  pub fit : All (FitsDelivery s) lane.work.deliveries

-- the works of the lanes, in order
abbrev pub works_of : List LaneValue → List Work
works_of lanes = map (λ l. l.work) lanes

-- the records of all lanes, lane by lane
abbrev pub lane_records : List LaneValue → List Record
lane_records lanes = flat_map (λ l. l.records) lanes

-- the lanes fit the setup, are of different CPUs, and no two of them have turns of one line
pub record FitLanes (s : Setup) (lanes : List LaneValue) : Type 0 where
  pub fit : All (FitsLane s) lanes
  pub cpus : AllPairs (λ l m. l.work.cpu ≢ m.work.cpu) lanes
  pub apart : LinesApart (works_of lanes)
