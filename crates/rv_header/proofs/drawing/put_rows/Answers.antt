use Rattle.std.proofs.Common.{◌++◌, ◌∙◌, ℕ, List, [], map, ap, sym, arith, get_or}
use Rattle.std.specs.List.{flat_map, zip}
use Rattle.std.proofs.lemmas.List.{length-map}
use Rattle.rv_dot.specs.inner.Held.{bytes_of}
use Rattle.rv_dot.specs.Gathered.{Arc}
use Rattle.rv_dot.specs.Canonical.{arc_line}
use Rattle.rv_header.specs.inner.Taking.{row_arcs, members_in}
use Rattle.rv_header.proofs.Zips.{zipped_more, zipped_all, flat_flat}
use Rattle.rv_header.proofs.drawing.put_rows.Goals as goal

pub states-preserved : goal.states-preserved
states-preserved c =
    zipped_more (λ (p : List ℕ × List ℕ). flat_map arc_line (row_arcs c.args.name.now (map bytes_of c.args.events.now) p.0 (members_in p.1))) (map bytes_of c.args.states.now) (map bytes_of c.args.rows.now) c.states.place c.states.out c.put_members.new.out _
    (simp length-map (omega arith)) c.states.invariant
    (c.in_ok-put_members.ensures
    ∙ ap (λ (e : List ℕ). c.states.out ++ flat_map arc_line (row_arcs c.args.name.now (map bytes_of c.args.events.now) e (members_in c.text_at.result.now))) c.text_at-from.ensures
    ∙ ap (λ (e : List ℕ). c.states.out ++ flat_map arc_line (row_arcs c.args.name.now (map bytes_of c.args.events.now) (get_or (map bytes_of c.args.states.now) c.states.place []) (members_in e))) c.text_at.ensures)

pub returns : goal.returns
returns c =
    let arcs : List ℕ × List ℕ → List Arc = λ p. row_arcs c.args.name.now (map bytes_of c.args.events.now) p.0 (members_in p.1) in
    zipped_all (λ (p : List ℕ × List ℕ). flat_map arc_line (arcs p)) (map bytes_of c.args.states.now) (map bytes_of c.args.rows.now) c.states.place c.states.out _
    (simp length-map (omega arith)) c.states.invariant
    ∙ ap (λ (z : List ℕ). c.args.out.now ++ z) (sym (flat_flat arc_line arcs (zip (map bytes_of c.args.states.now) (map bytes_of c.args.rows.now))))
