use Rattle.rv_journal.specs.inner.MergeRuns.{NewLanes}
use Rattle.rv_journal.proofs.merging.Merging.new.Given as goal

abbrev pub invariant-loop-lane : goal.invariant-loop-lane
invariant-loop-lane g l = NewLanes l.lanes l.lane-index l.cursors.items l.waits
