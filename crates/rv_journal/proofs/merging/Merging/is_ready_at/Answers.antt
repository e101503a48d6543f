-- The test of the lane's next step decides whether it is ready.
use Rattle.std.proofs.Common.{sym, ◌∙◌}
use Rattle.rv_journal.specs.inner.MergeRuns.{merge_run}
use Rattle.rv_journal.proofs.ReadyLemmas.{read-in_slots, ready-there, unready-there}
use Rattle.rv_journal.proofs.merging.Merging.is_ready_at.Goals as goal

pub is_ready-requires : goal.is_ready-requires
is_ready-requires g c =
    read-in_slots (merge_run c.args._setup.now g.seen) c.args.lanes.now c.args.self.now.placed.items c.args.self.now.cursors.items c.args.self.now.changes.items c.args.self.now.waits c.requires.0
    c.args.index c.requires.1 c.index.result.now c.index.ensures c.in-Some.next.step c.in-Some.next.cursor c.in-Some.ensures

pub returns-in-Some-clause-ready : goal.returns-in-Some-clause-ready
returns-in-Some-clause-ready g c = λ is.
    ready-there (merge_run c.args._setup.now g.seen) c.args.lanes.now c.args.self.now.placed.items c.args.self.now.cursors.items c.args.self.now.changes.items c.args.self.now.waits c.requires.0
    c.args.index c.requires.1 c.index.result.now c.index.ensures c.in-Some.next.step c.in-Some.next.cursor c.in-Some.ensures (sym c.is_ready.ensures ∙ is)

pub returns-in-Some-clause-unready : goal.returns-in-Some-clause-unready
returns-in-Some-clause-unready g c = λ is.
    unready-there (merge_run c.args._setup.now g.seen) c.args.lanes.now c.args.self.now.placed.items c.args.self.now.cursors.items c.args.self.now.changes.items c.args.self.now.waits c.requires.0
    c.args.index c.requires.1 c.index.result.now c.index.ensures c.in-Some.next.step c.in-Some.next.cursor c.in-Some.ensures (sym c.is_ready.ensures ∙ is)
