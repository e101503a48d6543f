use Rattle.rv_journal.specs.inner.MergeRuns.{merge_run, IsMerging, steps_left}
use Rattle.rv_journal.proofs.merging.merge_lanes.Given as goal

abbrev pub ghost-new : goal.ghost-new
ghost-new g a = g.seen

abbrev pub ghost-ready_lane : goal.ghost-ready_lane
ghost-ready_lane g a = g.seen

abbrev pub ghost-place : goal.ghost-place
ghost-place g a = g.seen

abbrev pub invariant-loop-place : goal.invariant-loop-place
invariant-loop-place g l = IsMerging (merge_run l.setup g.seen) l.lanes l.merging.placed.items l.merging.cursors.items l.merging.changes.items l.merging.waits

abbrev pub decreases-loop-place : goal.decreases-loop-place
decreases-loop-place g l = steps_left l.lanes l.merging.cursors.items
