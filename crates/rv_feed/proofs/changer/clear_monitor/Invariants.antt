-- The instances so far are cleared.
use Rattle.rv_feed.specs.Changes.{DoesAll}
use Rattle.rv_feed.specs.inner.Clearing.{of_instances}
use Rattle.rv_feed.proofs.changer.clear_monitor.Given as goal

abbrev pub invariant-loop-instance : goal.invariant-loop-instance
invariant-loop-instance l = DoesAll l.fn.seat l.seat (of_instances l.board.setup.shape l.monitor l.instance)
