-- What was joined is in the seat, and its lanes are back.
use Rattle.std.proofs.Common.{◌≡◌, List, vec_len}
use Rattle.rv_board.proofs.RunSeatLemmas.{JoinedSoFar}
use Rattle.rv_journal.specs.declared.feeding.CountedFeeder.{CountedFeeder}
use Rattle.rv_journal.specs.inner.Running.{lanes_in}
use Rattle.rv_journal.proofs.running.join_all.Given as goal

abbrev pub invariant-loop-feeder : goal.invariant-loop-feeder
invariant-loop-feeder g l = record {
  joined_in : List (CountedFeeder g.row.G.Denot);
  seats : JoinedSoFar (λ (f : CountedFeeder g.row.G.Denot). f.seat.seat) l.fn.board l.fn.into.seat l.into.seat l.fn.feeders.items l.feeders.items joined_in;
  lanes : l.lanes.items ≡ lanes_in joined_in;
}

abbrev pub decreases-loop-feeder : goal.decreases-loop-feeder
decreases-loop-feeder g l = vec_len l.feeders
