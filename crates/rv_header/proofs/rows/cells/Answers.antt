use Rattle.std.proofs.Common.{◌≡◌, ◌++◌, List, ℕ, [], ◌∷◌, ap, ◌∙◌}
use Rattle.rv_model.specs.declared.automaton.Edge.{Edge}
use Rattle.rv_model.specs.Machine.{Machine}
use Rattle.rv_header.specs.HeaderText.{target_of, cell_text}
use Rattle.rv_header.proofs.ListSteps.{numbered_mapped_more}
use Rattle.rv_header.proofs.rows.cells.Goals as goal

pub events-preserved : goal.events-preserved
events-preserved c =
    let a : Machine = record { states = c.automaton.inside.states; events = c.automaton.inside.events; edges = c.automaton.inside.edges.items; marked = c.automaton.inside.marked } in
    let f : Machine → ℕ → List ℕ = λ m event. cell_text c.args.name.now m.states (target_of m.edges c.args.from event) in
    let target : c.target_of-target.result ≡ target_of a.edges c.args.from c.events.event = c.target_of-target.ensures ∙ ap (λ (es : List Edge). target_of es c.args.from c.events.event) c.deref.ensures.value in
    let made : c.in_ok-cell.field-0 ≡ f a c.events.event = c.in_ok-cell.ensures ∙ ap (λ t. cell_text c.args.name.now a.states t) target in
    numbered_mapped_more (f c.args.automaton.now) c.args.automaton.now.events c.events.event c.events.row c.push.new.self _
    (rw (← ap (λ (m : Machine). m.events) c.automaton.view_is, ← c.len.ensures) c.events-test.true) c.events.invariant
    (c.in_ok-push.ensures.ok ∙ ap (λ (z : List ℕ). c.events.row ++ z ∷ []) (made ∙ ap (λ (m : Machine). f m c.events.event) c.automaton.view_is))
