use Rattle.std.proofs.Common.{◌++◌, ◌∙◌, ℕ, List, [], codes, map, ap, sym, arith, get_or, Bool}
use Rattle.std.specs.List.{zip}
use Rattle.std.specs.Str.{bytes_eq}
use Rattle.std.proofs.lemmas.List.Folds.{flat_map-map}
use Rattle.std.proofs.lemmas.List.{length-map}
use Rattle.rv_dot.specs.inner.Held.{bytes_of}
use Rattle.rv_dot.specs.Canonical.{State, state_line}
use Rattle.rv_header.specs.inner.Taking.{state_by}
use Rattle.rv_header.proofs.Zips.{zipped_more, zipped_all}
use Rattle.rv_header.proofs.drawing.put_states.Goals as goal

pub states-preserved : goal.states-preserved
states-preserved c =
    zipped_more (λ (p : List ℕ × List ℕ). state_line (state_by p.0 p.1)) (map bytes_of c.args.states.now) (map bytes_of c.args.marks.now) c.states.place c.states.out c.put_state_line.new.out _
    (simp length-map (omega arith)) c.states.invariant
    (c.in_ok-put_state_line.ensures
    ∙ ap (λ (b : Bool). c.states.out ++ state_line (record { name = c.text_at-in-states.result.now; is_marked = b })) (c.is_marked-is_marked.ensures ∙ ap (λ (m : List ℕ). bytes_eq m (codes "1")) c.text_at.ensures)
    ∙ ap (λ (n : List ℕ). c.states.out ++ state_line (state_by n (get_or (map bytes_of c.args.marks.now) c.states.place []))) c.text_at-in-states.ensures)

pub returns : goal.returns
returns c =
    let by : List ℕ × List ℕ → State = λ p. state_by p.0 p.1 in
    zipped_all (λ (p : List ℕ × List ℕ). state_line (state_by p.0 p.1)) (map bytes_of c.args.states.now) (map bytes_of c.args.marks.now) c.states.place c.states.out _
    (simp length-map (omega arith)) c.states.invariant
    ∙ ap (λ (z : List ℕ). c.args.out.now ++ z) (sym (flat_map-map state_line by (zip (map bytes_of c.args.states.now) (map bytes_of c.args.marks.now))))
