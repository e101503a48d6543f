-- What a feeder adds to its seat's list and to its records.
use Rattle.std.specs.Prelude.{◌≡◌, ℕ, Bool, List, ◌++◌, reverse, All}
use Rattle.rv_model.specs.Records.{script_records}
use Rattle.rv_model.specs.Scripts.{Played, played, Plays}
use Rattle.rv_core.specs.Setup.{judges_of}
use Rattle.rv_board.specs.Seats.{BoardId, SeatValue, SeatGrows}
use Rattle.rv_core.specs.Deliveries.{FitsDelivery}
use Rattle.rv_feed.specs.Lane.{LaneValue, IsNewLane}
use Rattle.rv_feed.specs.Turns.{entries_played}

-- ---- entries of one seat

-- the seat's own entries in the list that it has seen, each with its answer, by the board's tables as judges
abbrev pub played_by : SeatValue → List Played
played_by seat = played seat.board.setup (judges_of seat.board.setup) seat.part.number (reverse seat.part.seen)

-- the seat's list grows by the entries of `ps`, all its own, and each has the answer that `ps` gives it
pub record Adds (old new : SeatValue) (ps : List Played) : Type 0 where
  pub grows : SeatGrows old new (entries_played ps)
  pub played_is : played_by new ≡ played_by old ++ ps

-- ---- a whole script

-- the lane is new, and its deliveries fit the board
pub record CanFeed (board : BoardId) (lane : LaneValue) : Type 0 where
  pub new_lane : IsNewLane lane.work lane
  pub fit : All (FitsDelivery board.setup) lane.work.deliveries

-- the seat's list grows by a script of the lane's work, whose records the lane then has
pub record Feeds (panics : ℕ → Bool) (old new : SeatValue) (lane lane' : LaneValue) : Type 0 where
  pub script : List Played
  pub adds : Adds old new script
  pub plays : Plays old.board.setup panics lane.work script
  pub records : script_records lane.work.deliveries lane.work.turns script ≡ lane'.records
  pub work_is : lane'.work ≡ lane.work
