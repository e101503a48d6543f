use Rattle.std.proofs.Common.{◌≡◌, ◌-◌, ◌++◌, drop, length}
use Rattle.std.specs.List.{flat_map}
use Rattle.rv_dot.specs.Canonical.{node_line}
use Rattle.rv_dot.proofs.canonical.put_nodes.Given as goal

abbrev pub invariant-states : goal.invariant-states
invariant-states l = l.out ++ flat_map node_line (drop l.place l.states) ≡ l.initial.out ++ flat_map node_line l.states

abbrev pub decreases-states : goal.decreases-states
decreases-states l = length l.states - l.place
