use Rattle.std.proofs.Common.{◌≡◌, ◌++◌, ℕ, List, drop, map}
use Rattle.std.specs.List.{flat_map, zip}
use Rattle.rv_dot.specs.inner.Held.{bytes_of}
use Rattle.rv_dot.specs.Canonical.{arc_line}
use Rattle.rv_header.specs.inner.Taking.{cell_arcs}
use Rattle.rv_header.proofs.drawing.put_row.Given as goal

abbrev pub invariant-events : goal.invariant-events
invariant-events l = l.out ++ flat_map (λ (p : List ℕ × List ℕ). flat_map arc_line (cell_arcs l.name l.from p.0 p.1)) (zip (drop l.place (map bytes_of l.events)) (drop l.place (map bytes_of l.row))) ≡ l.initial.out ++ flat_map (λ (p : List ℕ × List ℕ). flat_map arc_line (cell_arcs l.name l.from p.0 p.1)) (zip (map bytes_of l.events) (map bytes_of l.row))
