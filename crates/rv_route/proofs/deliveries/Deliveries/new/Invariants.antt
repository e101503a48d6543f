use Rattle.std.proofs.Common.{◌≡◌, replicate}
use Rattle.rv_route.specs.LineByLine.{no_lane}
use Rattle.rv_route.proofs.deliveries.Deliveries.new.Given as goal

abbrev pub invariant-loop-cpu : goal.invariant-loop-cpu
invariant-loop-cpu l = l.lanes.items ≡ replicate l.cpu no_lane
