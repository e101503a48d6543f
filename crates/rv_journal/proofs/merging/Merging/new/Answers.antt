-- Nothing is placed, and all that the items hold is held.
use Rattle.std.proofs.Common.{◌≡◌, ℕ, ◌+◌, List, length, replicate, get_or, refl, sym, ap, subst, ◌∙◌, arith}
use Rattle.std.proofs.lemmas.List.{get_or-replicate, get_or_default, length-replicate}
use Rattle.rv_model.specs.declared.entry.Entry.{Entry}
use Rattle.rv_journal.specs.declared.counted.Counted.{Counted}
use Rattle.rv_journal.specs.declared.steps.LaneProgress.{LaneProgress}
use Rattle.rv_journal.specs.CountedLanes.{CountedLaneValue}
use Rattle.rv_journal.specs.inner.MergePending.{pending_at, lane_pending}
use Rattle.rv_journal.specs.inner.MergeRuns.{merge_run, lane_at, IsMerging, NewLanes}
use Rattle.rv_journal.specs.inner.Merging.{no_lane}
use Rattle.rv_journal.proofs.FinishLemmas.{new-none, new-more, begins}
use Rattle.rv_journal.proofs.merging.Merging.new.Goals as goal

pub loop-lane-init : goal.loop-lane-init
loop-lane-init g c = new-none c.args.lanes.now c.new-cursors.result.items c.new-waits.result c.new-cursors.ensures.items (λ gap. rw c.new-waits.ensures.empty refl)

pub loop-lane-preserved : goal.loop-lane-preserved
loop-lane-preserved g c =
    let lanes : List CountedLaneValue = c.args.lanes.now in
    let i : ℕ = c.loop-lane.lane-index in
    let lane : c.lane-item.result ≡ lane_at lanes i = c.lane-item.is ∙ get_or_default lanes i c.lane-item.result no_lane (let t = c.loop-lane-test.true in omega arith) in
    let held : c.items.result.now ≡ (lane_at lanes i).counted = c.items.ensures ∙ ap (λ (l : CountedLaneValue). l.counted) lane in
    subst (λ (z : List LaneProgress). NewLanes lanes (i + 1) z c.hold_items.new.waits) (sym c.in_ok-push.ensures.items)
    (new-more lanes i c.loop-lane.cursors.items c.loop-lane.waits c.hold_items.new.waits c.loop-lane.invariant (λ gap. c.in_ok-hold_items.ensures gap ∙ ap (λ (z : List Counted). pending_at c.loop-lane.waits gap + lane_pending gap z) held))

pub returns : goal.returns
returns g c =
    let all : c.loop-lane.lane-index ≡ length c.args.lanes.now = (let t = c.loop-lane-test.false in let e = c.loop-lane.auto.lane-index-end in omega arith) in
    let new : NewLanes c.args.lanes.now (length c.args.lanes.now) c.loop-lane.cursors.items c.loop-lane.waits = subst (λ (n : ℕ). NewLanes c.args.lanes.now n c.loop-lane.cursors.items c.loop-lane.waits) all c.loop-lane.invariant in
    let zeros : c.in_ok-changes.changes.items ≡ replicate c.slots_of.result 0 = c.in_ok-changes.ensures.items_if_clones_equal (λ y e. e) in
    let slots = c.slots_of.ensures in
    let begun = begins c.args.setup.now g.seen c.args.lanes.now c.requires c.assert_invariant.ensures c.assert_lanes.ensures.works c.assert_lanes.ensures.numbers c.loop-lane.cursors.items c.in_ok-changes.changes.items c.loop-lane.waits new
    (ap length zeros ∙ (length-replicate c.slots_of.result 0 ∙ slots))
    (λ slot low. ap (λ (z : List ℕ). get_or z slot 0) zeros ∙ get_or-replicate c.slots_of.result slot 0 0 (omega arith)) in
    subst (λ (z : List Entry). IsMerging (merge_run c.args.setup.now g.seen) c.args.lanes.now z c.loop-lane.cursors.items c.in_ok-changes.changes.items c.loop-lane.waits) (sym c.new.ensures.items) begun
