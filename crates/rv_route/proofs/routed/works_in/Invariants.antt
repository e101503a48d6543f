use Rattle.std.proofs.Common.{◌≡◌, ◌≤◌, ◌+◌, ◌++◌, length}
use Rattle.std.specs.Vec.{vec_len, vec_capacity}
use Rattle.std.specs.Vec.Iter.{into_iter_items}
use Rattle.std.specs.Prelude.{All}
use Rattle.rv_route.specs.Lanes.{IsLane}
use Rattle.rv_route.specs.LineByLine.{works_of, works_from}
use Rattle.rv_route.proofs.routed.works_in.Given as goal

abbrev pub invariant-loop-lane : goal.invariant-loop-lane
invariant-loop-lane l = (works_of l.fn.lanes.items ≡ l.works.items ++ works_from l.cpu (into_iter_items l.lane-iterator)) × (l.cpu + length (into_iter_items l.lane-iterator) ≡ 64) × All IsLane (into_iter_items l.lane-iterator) × (vec_len l.works ≤ l.cpu) × (64 ≤ vec_capacity l.works)
