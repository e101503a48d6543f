use Rattle.std.proofs.Common.{take}
use Rattle.std.specs.Prelude.{All}
use Rattle.rv_model.specs.Works.{IsWork}
use Rattle.rv_journal.specs.inner.Merging.{NumbersFit}
use Rattle.rv_journal.proofs.merging.assert_lanes.Given as goal

abbrev pub invariant-loop-lane : goal.invariant-loop-lane
invariant-loop-lane l = record { works : All (λ x. IsWork x.work) (take l.lane-index l.lanes); numbers : All (λ x. All NumbersFit x.counted) (take l.lane-index l.lanes) }
