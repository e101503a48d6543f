use Rattle.std.proofs.Common.{◌≡◌, ◌++◌, List, map, ap, ◌∙◌, sym}
use Rattle.std.specs.List.{flat_map}
use Rattle.rv_model.specs.declared.automaton.Edge.{Edge}
use Rattle.std.specs.Prelude.{Some, Ok}
use Rattle.rv_model.specs.Machine.{Machine}
use Rattle.rv_dot.specs.Canonical.{arc_line, arc_named, dot_text}
use Rattle.rv_dot.specs.Dot.{dot_of}
use Rattle.rv_dot.proofs.CanonicalLaws.{written}
use Rattle.rv_dot.proofs.ReadAgain.{read_again}
use Rattle.rv_dot.proofs.canonical.write_dot.Goals as goal

pub returns-clause-text : goal.returns-clause-text
returns-clause-text c =
    let a : Machine = record { states = c.automaton.inside.states; events = c.automaton.inside.events; edges = c.automaton.inside.edges.items; marked = c.automaton.inside.marked } in
    c.into_bytes.ensures
    ∙ written a c.bytes-initial.result.now c.new-out.result c.put_head.new.out c.put_marker_line.new.out c.put_states.new.out c.put_initial_line.new.out c.put_nodes.new.out c.put_edges.new.out c.put_last.new.out
    (c.get.ensures ∙ ap Some (sym c.bytes-initial.ensures)) c.new-out.ensures c.in_ok-put_head.ensures c.in_ok-put_marker_line.ensures c.in_ok-put_states.ensures c.in_ok-put_initial_line.ensures c.in_ok-put_nodes.ensures (c.in_ok-put_edges.ensures ∙ ap (λ (es : List Edge). c.put_nodes.new.out ++ flat_map arc_line (map (arc_named c.automaton.inside.states c.automaton.inside.events) es)) c.deref.ensures.value) c.in_ok-put_last.ensures
    ∙ ap dot_text c.automaton.view_is

pub returns-clause-again : goal.returns-clause-again
returns-clause-again c =
    let a : Machine = record { states = c.automaton.inside.states; events = c.automaton.inside.events; edges = c.automaton.inside.edges.items; marked = c.automaton.inside.marked } in
    let text : c.put_last.new.out ≡ dot_text a =
    written a c.bytes-initial.result.now c.new-out.result c.put_head.new.out c.put_marker_line.new.out c.put_states.new.out c.put_initial_line.new.out c.put_nodes.new.out c.put_edges.new.out c.put_last.new.out
    (c.get.ensures ∙ ap Some (sym c.bytes-initial.ensures)) c.new-out.ensures c.in_ok-put_head.ensures c.in_ok-put_marker_line.ensures c.in_ok-put_states.ensures c.in_ok-put_initial_line.ensures c.in_ok-put_nodes.ensures (c.in_ok-put_edges.ensures ∙ ap (λ (es : List Edge). c.put_nodes.new.out ++ flat_map arc_line (map (arc_named c.automaton.inside.states c.automaton.inside.events) es)) c.deref.ensures.value) c.in_ok-put_last.ensures
    in
    ap dot_of (c.into_bytes.ensures ∙ text) ∙ read_again a c.automaton.invariant ∙ ap Ok c.automaton.view_is
