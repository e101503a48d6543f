-- The step is placed, and all that was held for it is released.
use Rattle.std.proofs.Common.{◌≡◌, ◌++◌, ◌∷◌, [], ℕ, List, set, sym, ap, subst, ◌∙◌, arith}
use Rattle.rv_model.specs.declared.entry.Entry.{Entry}
use Rattle.rv_journal.specs.inner.MergeSteps.{step_entry}
use Rattle.rv_journal.specs.inner.MergePending.{changes_after}
use Rattle.rv_journal.specs.Merging.{seat_of}
use Rattle.rv_journal.specs.inner.MergeRuns.{merge_run, lane_at, IsMerging}
use Rattle.rv_journal.proofs.RunLemmas.{enough-waits, next-merging, fewer-steps}
use Rattle.rv_journal.proofs.ReadyLemmas.{goes-there, may-there, read-in_slots, changes-few}
use Rattle.rv_journal.proofs.merging.Merging.place.Goals as goal

pub release_pending-requires : goal.release_pending-requires
release_pending-requires g c =
    let goes = goes-there (merge_run c.args.setup.now g.seen) c.args.lanes.now c.args.self.now.placed.items c.args.self.now.cursors.items c.args.self.now.changes.items c.args.self.now.waits c.requires.0
    c.args.index c.requires.1.ready.low c.index.result.now c.index.ensures c.in-Some.next.step c.in-Some.next.cursor c.in-Some.ensures in
    let may = may-there (merge_run c.args.setup.now g.seen) c.args.lanes.now c.args.self.now.placed.items c.args.self.now.cursors.items c.args.self.now.changes.items c.args.self.now.waits c.requires.0
    c.args.index c.requires.1.ready.low c.index.result.now c.index.ensures c.in-Some.next.step c.in-Some.next.cursor c.in-Some.ensures c.requires.1.ready in
    enough-waits (merge_run c.args.setup.now g.seen) c.args.lanes.now c.args.self.now.placed.items c.args.self.now.cursors.items c.args.self.now.changes.items c.args.self.now.waits c.requires.0
    c.args.index c.requires.1.ready.low c.in-Some.next.step c.in-Some.next.cursor goes may c.next_from-then.result c.next_from-then.ensures

pub count-requires-clause-slot : goal.count-requires-clause-slot
count-requires-clause-slot g c =
    read-in_slots (merge_run c.args.setup.now g.seen) c.args.lanes.now c.args.self.now.placed.items c.args.self.now.cursors.items c.args.self.now.changes.items c.args.self.now.waits c.requires.0
    c.args.index c.requires.1.ready.low c.index.result.now c.index.ensures c.in-Some.next.step c.in-Some.next.cursor c.in-Some.ensures

pub count-requires-clause-room : goal.count-requires-clause-room
count-requires-clause-room g c = λ slot.
    (let few = changes-few (merge_run c.args.setup.now g.seen) c.args.lanes.now c.args.self.now.placed.items c.args.self.now.cursors.items c.args.self.now.changes.items c.args.self.now.waits c.requires.0 slot in
    let small = c.args.self.now.placed.small in
    let ok = c.args.self.now.placed.ok in
    let is = ok.0 in
    let within = ok.1 in
    omega arith)

pub returns-clause-merging : goal.returns-clause-merging
returns-clause-merging g c =
    let goes = goes-there (merge_run c.args.setup.now g.seen) c.args.lanes.now c.args.self.now.placed.items c.args.self.now.cursors.items c.args.self.now.changes.items c.args.self.now.waits c.requires.0
    c.args.index c.requires.1.ready.low c.index.result.now c.index.ensures c.in-Some.next.step c.in-Some.next.cursor c.in-Some.ensures in
    let may = may-there (merge_run c.args.setup.now g.seen) c.args.lanes.now c.args.self.now.placed.items c.args.self.now.cursors.items c.args.self.now.changes.items c.args.self.now.waits c.requires.0
    c.args.index c.requires.1.ready.low c.index.result.now c.index.ensures c.in-Some.next.step c.in-Some.next.cursor c.in-Some.ensures c.requires.1.ready in
    let next = next-merging (merge_run c.args.setup.now g.seen) c.args.lanes.now c.args.self.now.placed.items c.args.self.now.cursors.items c.args.self.now.changes.items c.args.self.now.waits c.requires.0
    c.args.index c.requires.1.ready.low c.in-Some.next.step c.in-Some.next.cursor goes may c.next_from-then.result c.next_from-then.ensures c.release_pending.new.waits c.in_ok-release_pending.ensures c.requires.1 in
    let entry : c.entry_of.result ≡ step_entry (seat_of (lane_at c.args.lanes.now c.args.index)) c.args.setup.now.switches c.in-Some.next.step =
    c.entry_of.ensures ∙ (ap (λ (n : ℕ). step_entry n c.switches_of.result c.in-Some.next.step) c.seat_at-seat.ensures ∙ ap (λ (n : ℕ). step_entry (seat_of (lane_at c.args.lanes.now c.args.index)) n c.in-Some.next.step) c.switches_of.ensures) in
    let placed : c.push.new.self.items ≡ c.args.self.now.placed.items ++ step_entry (seat_of (lane_at c.args.lanes.now c.args.index)) c.args.setup.now.switches c.in-Some.next.step ∷ [] =
    c.in_ok-push.ensures.items ∙ ap (λ (e : Entry). c.args.self.now.placed.items ++ e ∷ []) entry in
    subst (λ (z : List ℕ). IsMerging (merge_run c.args.setup.now g.seen) c.args.lanes.now c.push.new.self.items (set c.args.self.now.cursors.items c.args.index c.in-Some.next.cursor) z c.release_pending.new.waits) (sym c.count.ensures)
    (subst (λ (z : List Entry). IsMerging (merge_run c.args.setup.now g.seen) c.args.lanes.now z (set c.args.self.now.cursors.items c.args.index c.in-Some.next.cursor) (changes_after c.args.self.now.changes.items c.in-Some.next.step) c.release_pending.new.waits) (sym placed) next)

pub returns-clause-fewer : goal.returns-clause-fewer
returns-clause-fewer g c =
    let goes = goes-there (merge_run c.args.setup.now g.seen) c.args.lanes.now c.args.self.now.placed.items c.args.self.now.cursors.items c.args.self.now.changes.items c.args.self.now.waits c.requires.0
    c.args.index c.requires.1.ready.low c.index.result.now c.index.ensures c.in-Some.next.step c.in-Some.next.cursor c.in-Some.ensures in
    let may = may-there (merge_run c.args.setup.now g.seen) c.args.lanes.now c.args.self.now.placed.items c.args.self.now.cursors.items c.args.self.now.changes.items c.args.self.now.waits c.requires.0
    c.args.index c.requires.1.ready.low c.index.result.now c.index.ensures c.in-Some.next.step c.in-Some.next.cursor c.in-Some.ensures c.requires.1.ready in
    fewer-steps (merge_run c.args.setup.now g.seen) c.args.lanes.now c.args.self.now.placed.items c.args.self.now.cursors.items c.args.self.now.changes.items c.args.self.now.waits c.requires.0
    c.args.index c.requires.1.ready.low c.in-Some.next.step c.in-Some.next.cursor goes may
