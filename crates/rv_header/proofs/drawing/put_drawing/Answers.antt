use Rattle.std.proofs.Common.{◌≡◌, ◌++◌, ◌∙◌, ℕ, List, [], map, ap, get_or}
use Rattle.std.specs.List.{flat_map}
use Rattle.rv_dot.specs.inner.Held.{bytes_of}
use Rattle.rv_dot.specs.Gathered.{Arc}
use Rattle.rv_dot.specs.Canonical.{State, Drawing, head_lines, marker_line, initial_line, arc_line, state_line, node_line, last_line, drawing_text}
use Rattle.rv_header.specs.inner.Taking.{marked_by, rows_arcs}
use Rattle.rv_header.proofs.Written.{grown}
use Rattle.rv_header.proofs.drawing.put_drawing.Goals as goal

pub returns : goal.returns
returns c =
    let o = c.args.out.now in
    let d = c.drawing.inside in
    let initial : List ℕ = get_or (map bytes_of d.states.now) 0 [] in
    let at : c.text_at-initial.result.now ≡ initial = c.text_at-initial.ensures in
    let states : List State = marked_by (map bytes_of d.states.now) (map bytes_of d.marks.now) in
    let arcs : List Arc = rows_arcs d.name.now (map bytes_of d.events.now) (map bytes_of d.states.now) (map bytes_of d.rows.now) in
    let first = grown o head_lines (marker_line initial) _ _ c.in_ok-put_head.ensures (c.in_ok-put_marker_line.ensures ∙ ap (λ (i : List ℕ). c.put_head.new.out ++ marker_line i) at) in
    let second = grown o _ (flat_map state_line states) _ _ first c.in_ok-put_states.ensures in
    let third = grown o _ (initial_line initial) _ _ second (c.in_ok-put_initial_line.ensures ∙ ap (λ (i : List ℕ). c.put_states.new.out ++ initial_line i) at) in
    let fourth = grown o _ (flat_map node_line (map (λ (s : State). s.name) states)) _ _ third c.in_ok-put_nodes.ensures in
    let fifth = grown o _ (flat_map arc_line arcs) _ _ fourth c.in_ok-put_rows.ensures in
    let sixth = grown o _ last_line _ _ fifth c.in_ok-put_last.ensures in
    let drawing : Drawing = record { initial = initial; states = states; arcs = arcs } in
    sixth ∙ ap (λ (d : Drawing). o ++ drawing_text d) c.drawing.view_is
