use Rattle.std.proofs.Common.{◌≡◌, ◌++◌, ℕ, List, drop, map}
use Rattle.std.specs.List.{flat_map, zip}
use Rattle.rv_dot.specs.inner.Held.{bytes_of}
use Rattle.rv_dot.specs.Canonical.{arc_line}
use Rattle.rv_header.specs.inner.Taking.{row_arcs, members_in}
use Rattle.rv_header.proofs.drawing.put_rows.Given as goal

abbrev pub invariant-states : goal.invariant-states
invariant-states l = l.out ++ flat_map (λ (p : List ℕ × List ℕ). flat_map arc_line (row_arcs l.name (map bytes_of l.events) p.0 (members_in p.1))) (zip (drop l.place (map bytes_of l.states)) (drop l.place (map bytes_of l.rows))) ≡ l.initial.out ++ flat_map (λ (p : List ℕ × List ℕ). flat_map arc_line (row_arcs l.name (map bytes_of l.events) p.0 (members_in p.1))) (zip (map bytes_of l.states) (map bytes_of l.rows))
