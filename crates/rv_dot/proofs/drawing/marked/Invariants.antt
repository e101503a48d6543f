use Rattle.std.proofs.Common.{◌≡◌, length, map, drop, ◌≤◌}
use Rattle.rv_dot.specs.inner.Held.{sayings_claims, bytes_of}
use Rattle.rv_dot.specs.Gathered.{is_marked}
use Rattle.rv_dot.specs.Dot.{bits_of}
use Rattle.rv_dot.proofs.drawing.marked.Given as goal

abbrev pub invariant-states : goal.invariant-states
invariant-states l = record { bits : l.bits ≡ bits_of (map (is_marked (sayings_claims l.said)) (map bytes_of (drop l.count l.states))); within : l.count ≤ length l.states }

abbrev pub decreases-states : goal.decreases-states
decreases-states l = l.count
