use Rattle.std.proofs.Common.{◌≡◌, ◌∷◌, rules}
use Rattle.std.specs.Vec.Iter.{into_iter_items}
use Rattle.rv_tool.proofs.PreparedLemmas.{lane_added, lanes_new}
use Rattle.rv_tool.proofs.input.lanes.Goals as goal

pub loop-work-preserved : goal.loop-work-preserved
loop-work-preserved c =
    let split : into_iter_items c.loop-work.work-iterator ≡ c.in-Some.work ∷ into_iter_items c.next.new.self = search rules in
    (lane_added _ _ c.new-lane.result _ _ _ c.in-Some.work split c.loop-work.invariant.0 c.new-lane.ensures.work_is c.in_ok-push.ensures.items, lanes_new _ _ c.new-lane.result c.in-Some.work c.loop-work.invariant.1 c.new-lane.ensures c.in_ok-push.ensures.items)
