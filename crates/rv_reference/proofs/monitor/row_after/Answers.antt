use Rattle.std.proofs.Common.{◌+◌, ap, ◌∙◌, sym, arith}
use Rattle.std.specs.Prelude.{option_map}
use Rattle.rv_model.specs.declared.automaton.Edge.{Edge}
use Rattle.rv_model.specs.declared.hit.Letter.TheVariants.{Event}
use Rattle.rv_model.specs.Machine.{Machine}
use Rattle.rv_reference.specs.inner.Edges.{is_edge_by}
use Rattle.rv_reference.proofs.PathLemmas.{no_edge}
use Rattle.rv_reference.proofs.EntryLemmas.{find-here, find-none}
use Rattle.rv_reference.proofs.monitor.row_after.Goals as goal

pub returns-then-leads : goal.returns-then-leads
returns-then-leads c =
    let items = c.deref-edge-items.ensures.value ∙ ap (λ (m : Machine). m.edges) c.automaton.view_is in
    let found = find-here (is_edge_by c.args.state (Event c.args.event)) c.args.automaton.now.edges c.loop-edge.edge-index no_edge (rw (← items) c.loop-edge-test.true) c.loop-edge.invariant (rw (← items) (sym c.leads.ensures ∙ c.if-leads.true)) in
    rw items (sym (ap (option_map (λ (edge : Edge). edge.to + 1)) found))

pub returns : goal.returns
returns c =
    let items = c.deref-edge-items.ensures.value ∙ ap (λ (m : Machine). m.edges) c.automaton.view_is in
    sym (ap (option_map (λ (edge : Edge). edge.to + 1)) (find-none (is_edge_by c.args.state (Event c.args.event)) c.args.automaton.now.edges no_edge (λ k lt. c.loop-edge.invariant k (let l = rw items at c.loop-edge-test.false in omega arith))))
