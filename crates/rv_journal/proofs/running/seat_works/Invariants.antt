-- The works that are left can be seated, and the others are.
use Rattle.std.proofs.Common.{vec_len}
use Rattle.rv_journal.specs.inner.Running.{AreCountedSeated}
use Rattle.rv_journal.proofs.SeatWorkLemmas.{CanSeatWorks}
use Rattle.rv_journal.proofs.running.seat_works.Given as goal

abbrev pub invariant-loop-work : goal.invariant-loop-work
invariant-loop-work g l = record {
  seated : AreCountedSeated l.board l.seat.seat l.fn.works.items l.works.items l.feeders.items;
  can : CanSeatWorks l.board.setup l.seat.seat l.works.items;
}

abbrev pub decreases-loop-work : goal.decreases-loop-work
decreases-loop-work g l = vec_len l.works
