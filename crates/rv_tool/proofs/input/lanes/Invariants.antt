use Rattle.std.proofs.Common.{◌≡◌, ◌++◌}
use Rattle.std.specs.Prelude.{All}
use Rattle.std.specs.Vec.Iter.{into_iter_items}
use Rattle.rv_feed.specs.Lane.{IsNewLane, works_of}
use Rattle.rv_tool.proofs.input.lanes.Given as goal

abbrev pub invariant-loop-work : goal.invariant-loop-work
invariant-loop-work l = (works_of l.lanes.items ++ into_iter_items l.work-iterator ≡ l.fn.works.items) × All (λ lane. IsNewLane lane.work lane) l.lanes.items
