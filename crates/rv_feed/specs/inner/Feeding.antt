-- A feeder between two turns.
use Rattle.std.specs.Prelude.{◌≡◌, ℕ, ◌<◌, ◌≤◌, Bool, List, take, length, slice_index_or}
use Rattle.rv_model.specs.declared.work.Turn.{Turn}
use Rattle.rv_model.specs.inner.ScriptParts.{GoesOn}
use Rattle.rv_model.specs.Scripts.{Played}
use Rattle.rv_board.specs.Seats.{SeatValue}
use Rattle.rv_feed.specs.Lane.{LaneValue}
use Rattle.rv_feed.specs.Feeding.{Adds}

-- the turns before the index `place` were played, and the script goes on
pub record FedSoFar (panics : ℕ → Bool) (old cur : SeatValue) (lane lane' : LaneValue) (place : ℕ) : Type 0 where
  pub ps : List Played
  pub adds : Adds old cur ps
  pub goes : GoesOn old.board.setup panics lane.work.deliveries (take place lane.work.turns) ps lane'.records
  pub work_is : lane'.work ≡ lane.work
  pub kept : (t : Turn) → place < length lane.work.turns → length lane'.records ≤ (slice_index_or lane.work.turns place t).from
  pub room : length lane.work.deliveries ≤ lane'.room
