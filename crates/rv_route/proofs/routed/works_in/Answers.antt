use Rattle.std.proofs.Common.{◌≡◌, ◌∷◌, length, ap, rules, arith}
use Rattle.std.specs.Vec.Iter.{into_iter_items}
use Rattle.rv_route.proofs.RoutingLemmas.{works_more, lanes_left, lanes_counted}
use Rattle.rv_route.proofs.routed.works_in.Goals as goal

pub keep-requires-clause-room : goal.keep-requires-clause-room
keep-requires-clause-room c =
    let split : into_iter_items c.loop-lane.lane-iterator ≡ c.in-Some.lane ∷ into_iter_items c.next.new.self = search rules in
    let so_far = c.loop-lane.invariant in
    let count = so_far.1 in
    let few = so_far.3 in
    let room = so_far.4 in
    let some : length (into_iter_items c.loop-lane.lane-iterator) ≡ length (c.in-Some.lane ∷ into_iter_items c.next.new.self) = ap length split in
    omega arith

pub loop-lane-preserved : goal.loop-lane-preserved
loop-lane-preserved c =
    let split : into_iter_items c.loop-lane.lane-iterator ≡ c.in-Some.lane ∷ into_iter_items c.next.new.self = search rules in
    let so_far = c.loop-lane.invariant in
    let few = so_far.3 in
    let room = so_far.4 in
    let more = c.keep.ensures.few in
    let kept = c.keep.ensures.room in (
      works_more _ _ _ c.loop-lane.cpu c.in-Some.lane _ _ split so_far.0 c.keep.ensures.kept,
      lanes_counted c.loop-lane.cpu c.in-Some.lane _ _ split so_far.1,
      lanes_left c.in-Some.lane _ _ split so_far.2,
      omega arith,
      omega arith,
    )
