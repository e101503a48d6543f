-- Where no lane's next step is ready, all is placed, in the order of the lowest.
use Rattle.rv_journal.specs.inner.MergeRuns.{merge_run}
use Rattle.rv_journal.proofs.FinishLemmas.{done}
use Rattle.rv_journal.proofs.merging.merge_lanes.Goals as goal

pub returns-clause-merged : goal.returns-clause-merged
returns-clause-merged g c =
    done (merge_run c.args.setup.now g.seen) c.args.lanes.now c.loop-place.merging.placed.items c.loop-place.merging.cursors.items c.loop-place.merging.changes.items c.loop-place.merging.waits c.loop-place.invariant c.in_default.ensures

pub returns-clause-order : goal.returns-clause-order
returns-clause-order g c = c.loop-place.invariant.order.lowest
