use Rattle.std.proofs.Common.{◌≡◌, ◌++◌, ℕ, List, drop, map}
use Rattle.std.specs.List.{flat_map, zip}
use Rattle.rv_dot.specs.inner.Held.{bytes_of}
use Rattle.rv_dot.specs.Canonical.{node_line}
use Rattle.rv_header.proofs.drawing.put_nodes.Given as goal

abbrev pub invariant-states : goal.invariant-states
invariant-states l = l.out ++ flat_map (λ (p : List ℕ × List ℕ). node_line p.0) (zip (drop l.place (map bytes_of l.states)) (drop l.place (map bytes_of l.marks))) ≡ l.initial.out ++ flat_map (λ (p : List ℕ × List ℕ). node_line p.0) (zip (map bytes_of l.states) (map bytes_of l.marks))
