-- The changes so far are made.
use Rattle.std.proofs.Common.{take}
use Rattle.rv_model.specs.Scripts.{control_acts}
use Rattle.rv_feed.specs.Changes.{DoesAll}
use Rattle.rv_feed.proofs.changer.make_all.Given as goal

abbrev pub invariant-loop-place : goal.invariant-loop-place
invariant-loop-place g l = DoesAll l.fn.seat l.seat (control_acts l.board.setup.shape (take l.place l.changes))
