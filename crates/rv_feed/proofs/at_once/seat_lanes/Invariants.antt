-- The lanes that are left can be seated, and the others are.
use Rattle.std.proofs.Common.{◌≡◌, vec_len}
use Rattle.rv_feed.specs.AtOnce.{AreSeated}
use Rattle.rv_feed.proofs.SeatedLemmas.{CanSeat}
use Rattle.rv_feed.proofs.at_once.seat_lanes.Given as goal

abbrev pub invariant-loop-lane : goal.invariant-loop-lane
invariant-loop-lane g l = record {
  seated : AreSeated l.board l.fn.seat.part.end l.seat l.fn.lanes.items l.lanes.items l.feeders.items;
  can : CanSeat l.board.setup l.seat l.lanes.items;
  room : l.lanes.cap ≡ l.fn.lanes.cap;
}

abbrev pub decreases-loop-lane : goal.decreases-loop-lane
decreases-loop-lane g l = vec_len l.lanes
