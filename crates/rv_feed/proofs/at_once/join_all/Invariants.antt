-- What was joined is in the seat, and its lanes are back.
use Rattle.std.proofs.Common.{◌≡◌, ◌+◌, ◌≤◌, List, ◌++◌, length, vec_len}
use Rattle.rv_board.proofs.RunSeatLemmas.{JoinedSoFar}
use Rattle.rv_feed.specs.declared.feeder.Feeder.{Feeder}
use Rattle.rv_feed.specs.AtOnce.{lanes_of}
use Rattle.rv_feed.specs.Lane.{LaneValue}
use Rattle.rv_feed.proofs.at_once.join_all.Given as goal

abbrev pub invariant-loop-feeder : goal.invariant-loop-feeder
invariant-loop-feeder g l = record {
  joined_in : List (Feeder g.row.G.Denot LaneValue);
  seats : JoinedSoFar (λ (f : Feeder g.row.G.Denot LaneValue). f.seat) l.fn.board l.fn.into l.into l.fn.feeders.items l.feeders.items joined_in;
  lanes : l.lanes.items ≡ l.fn.lanes.items ++ lanes_of joined_in;
  room : length l.lanes.items + length l.feeders.items ≤ l.lanes.cap;
}

abbrev pub decreases-loop-feeder : goal.decreases-loop-feeder
decreases-loop-feeder g l = vec_len l.feeders
