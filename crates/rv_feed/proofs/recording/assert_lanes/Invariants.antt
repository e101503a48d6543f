-- The works of the lanes so far are well formed.
use Rattle.std.proofs.Common.{ℕ, ◌<◌, get_or}
use Rattle.rv_model.specs.Works.{IsWork}
use Rattle.rv_feed.specs.Lane.{LaneValue}
use Rattle.rv_feed.proofs.recording.assert_lanes.Given as goal

abbrev pub invariant-loop-lane : goal.invariant-loop-lane
invariant-loop-lane g l = (place : ℕ) (d : LaneValue) → place < l.lane-index → IsWork (get_or l.lanes place d).work
