use Rattle.std.proofs.Common.{◌++◌, ◌∙◌, ℕ, List, map, ap}
use Rattle.std.specs.List.{flat_map}
use Rattle.rv_dot.specs.inner.Held.{bytes_of}
use Rattle.rv_dot.specs.Canonical.{arc_line}
use Rattle.rv_header.specs.inner.Taking.{row_arcs}
use Rattle.rv_header.proofs.drawing.put_members.Goals as goal

pub returns : goal.returns
returns c =
    c.in_ok-put_row.ensures
    ∙ ap (λ (cells : List (List ℕ)). c.args.out.now ++ flat_map arc_line (row_arcs c.args.name.now (map bytes_of c.args.events.now) c.args.from.now cells)) (ap (map bytes_of) c.deref.ensures.value ∙ c.in_ok-cells.ensures)
