use Rattle.std.proofs.Common.{◌++◌, ◌∙◌, ℕ, List, map, ap, sym, arith}
use Rattle.std.specs.List.{zip}
use Rattle.std.proofs.lemmas.List.{length-map}
use Rattle.std.proofs.lemmas.List.Folds.{flat_map-map}
use Rattle.rv_dot.specs.inner.Held.{bytes_of}
use Rattle.rv_dot.specs.Canonical.{State, node_line}
use Rattle.rv_header.specs.inner.Taking.{state_by}
use Rattle.rv_header.proofs.Zips.{zipped_more, zipped_all}
use Rattle.rv_header.proofs.drawing.put_nodes.Goals as goal

pub states-preserved : goal.states-preserved
states-preserved c =
    zipped_more (λ (p : List ℕ × List ℕ). node_line p.0) (map bytes_of c.args.states.now) (map bytes_of c.args.marks.now) c.states.place c.states.out c.put_node_line.new.out _
    (simp length-map (omega arith)) c.states.invariant
    (c.in_ok-put_node_line.ensures ∙ ap (λ (n : List ℕ). c.states.out ++ node_line n) c.text_at.ensures)

pub returns : goal.returns
returns c =
    let by : List ℕ × List ℕ → State = λ p. state_by p.0 p.1 in
    let pairs : List (List ℕ × List ℕ) = zip (map bytes_of c.args.states.now) (map bytes_of c.args.marks.now) in
    zipped_all (λ (p : List ℕ × List ℕ). node_line p.0) (map bytes_of c.args.states.now) (map bytes_of c.args.marks.now) c.states.place c.states.out _
    (simp length-map (omega arith)) c.states.invariant
    ∙ ap (λ (z : List ℕ). c.args.out.now ++ z) (sym (flat_map-map node_line (λ (s : State). s.name) (map by pairs) ∙ flat_map-map (λ (s : State). node_line s.name) by pairs))
