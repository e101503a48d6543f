use Rattle.std.proofs.Common.{◌++◌, ◌∙◌, ℕ, List, [], map, ap, sym, arith, get_or}
use Rattle.std.specs.List.{flat_map, zip}
use Rattle.std.proofs.lemmas.List.{length-map}
use Rattle.rv_dot.specs.inner.Held.{bytes_of}
use Rattle.rv_dot.specs.Gathered.{Arc}
use Rattle.rv_dot.specs.Canonical.{arc_line}
use Rattle.rv_header.specs.inner.Taking.{cell_arcs}
use Rattle.rv_header.proofs.Zips.{zipped_more, zipped_all, flat_flat}
use Rattle.rv_header.proofs.drawing.put_row.Goals as goal

pub events-preserved : goal.events-preserved
events-preserved c =
    zipped_more (λ (p : List ℕ × List ℕ). flat_map arc_line (cell_arcs c.args.name.now c.args.from.now p.0 p.1)) (map bytes_of c.args.events.now) (map bytes_of c.args.row.now) c.events.place c.events.out c.put_cell.new.out _
    (simp length-map (omega arith)) c.events.invariant
    (c.in_ok-put_cell.ensures
    ∙ ap (λ (e : List ℕ). c.events.out ++ flat_map arc_line (cell_arcs c.args.name.now c.args.from.now e c.text_at-in-events.result.now)) c.text_at.ensures
    ∙ ap (λ (e : List ℕ). c.events.out ++ flat_map arc_line (cell_arcs c.args.name.now c.args.from.now (get_or (map bytes_of c.args.events.now) c.events.place []) e)) c.text_at-in-events.ensures)

pub returns : goal.returns
returns c =
    let arcs : List ℕ × List ℕ → List Arc = λ p. cell_arcs c.args.name.now c.args.from.now p.0 p.1 in
    zipped_all (λ (p : List ℕ × List ℕ). flat_map arc_line (arcs p)) (map bytes_of c.args.events.now) (map bytes_of c.args.row.now) c.events.place c.events.out _
    (simp length-map (omega arith)) c.events.invariant
    ∙ ap (λ (z : List ℕ). c.args.out.now ++ z) (sym (flat_flat arc_line arcs (zip (map bytes_of c.args.events.now) (map bytes_of c.args.row.now))))
