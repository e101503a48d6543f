-- The turns so far are a script that goes on.
use Rattle.rv_feed.specs.inner.Feeding.{FedSoFar}
use Rattle.rv_feed.specs.Lane.{panics_of}
use Rattle.rv_feed.proofs.feeder.play.Given as goal

abbrev pub invariant-loop-place : goal.invariant-loop-place
invariant-loop-place g l = FedSoFar (panics_of l.reactors) l.fn.seat l.seat (g.L.Keeper.lane l.fn.lane) (g.L.Keeper.lane l.lane) l.place
