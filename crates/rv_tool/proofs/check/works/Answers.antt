use Rattle.std.proofs.Common.{◌≡◌, ◌∷◌, rules}
use Rattle.std.specs.Vec.Iter.{into_iter_items}
use Rattle.rv_tool.proofs.JudgedLemmas.{work_taken}
use Rattle.rv_tool.proofs.check.works.Goals as goal

pub loop-lane-preserved : goal.loop-lane-preserved
loop-lane-preserved c =
    let split : into_iter_items c.loop-lane.lane-iterator ≡ c.in-Some.lane ∷ into_iter_items c.next.new.self = search rules in
    work_taken _ _ c.in-Some.lane _ _ _ _ split c.loop-lane.invariant c.into_work.ensures c.in_ok-push.ensures.items
