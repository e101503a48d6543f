-- The monitors so far are cleared.
use Rattle.rv_feed.specs.Changes.{DoesAll}
use Rattle.rv_feed.proofs.ClearLemmas.{of_monitors}
use Rattle.rv_feed.proofs.changer.clear.Given as goal

abbrev pub invariant-loop-monitor : goal.invariant-loop-monitor
invariant-loop-monitor l = DoesAll l.fn.seat l.seat (of_monitors l.board.setup.shape l.set l.monitor)
