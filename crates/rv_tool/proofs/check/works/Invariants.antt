use Rattle.std.proofs.Common.{◌≡◌, ◌++◌}
use Rattle.std.specs.Vec.Iter.{into_iter_items}
use Rattle.rv_feed.specs.Lane.{works_of}
use Rattle.rv_tool.proofs.check.works.Given as goal

-- the works so far and those of the later lanes are all of them
abbrev pub invariant-loop-lane : goal.invariant-loop-lane
invariant-loop-lane l = l.works.items ++ works_of (into_iter_items l.lane-iterator) ≡ works_of l.fn.lanes.items
