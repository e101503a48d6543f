use Rattle.std.proofs.Common.{◌≡◌, ◌++◌, drop, map}
use Rattle.std.specs.List.{flat_map}
use Rattle.rv_dot.specs.Canonical.{arc_line, arc_named}
use Rattle.rv_dot.proofs.canonical.put_edges.Given as goal

abbrev pub invariant-edges : goal.invariant-edges
invariant-edges l = l.out ++ flat_map arc_line (map (arc_named l.states l.events) (drop l.edge-index l.edges)) ≡ l.initial.out ++ flat_map arc_line (map (arc_named l.states l.events) l.edges)
