-- A letter that may take an edge takes those by its event.
use Rattle.std.proofs.Common.{◌≡◌, ℕ, ◌+◌, Bool, true, ◌&&◌, get_or, sym, ap, ◌∙◌}
use Rattle.std.proofs.lemmas.Result.{on_ok_weaker}
use Rattle.rv_model.specs.declared.automaton.Edge.{Edge}
use Rattle.rv_model.specs.declared.hit.Letter.{Letter}
use Rattle.rv_model.specs.declared.hit.Letter.TheVariants.{Event}
use Rattle.rv_model.specs.Numbers.{has_bit}
use Rattle.rv_reach.specs.declared.judged.Judged.{Judged}
use Rattle.rv_reach.specs.Reached.{is_event, is_run, takes}
use Rattle.rv_reach.specs.inner.RowSets.{is_move, rows_behind}
use Rattle.rv_reach.proofs.CountLemmas.{more-same}
use Rattle.rv_reach.proofs.counters.count_edges.Goals as goal

-- an event of a run takes the edges that go by it
event-takes : (edge : Edge) (j : Judged) (event : ℕ) → is_run j.mode j.answer ≡ true → j.letter ≡ Event event → is_move edge event j.from (rows_behind j.after) ≡ takes edge j.mode j.answer j.letter j.from (rows_behind j.after)
event-takes edge j event is letter =
    sym (ap (λ (b : Bool). b && is_event edge.event j.letter && has_bit j.from (edge.from + 1) && has_bit (rows_behind j.after) (edge.to + 1)) is
    ∙ ap (λ (x : Letter). is_event edge.event x && has_bit j.from (edge.from + 1) && has_bit (rows_behind j.after) (edge.to + 1)) letter)

pub returns-in-Event : goal.returns-in-Event
returns-in-Event c =
    let j : Judged = c.args.judged.now in
    on_ok_weaker c.count_moves.result
    (λ moves none many.
    more-same (λ k. is_move (get_or c.args.edges.now k none) c.in-Event.event j.from c.rows_behind.result) (λ k. takes (get_or c.args.edges.now k none) j.mode j.answer j.letter j.from (rows_behind j.after)) c.args.counts.now.items c.count_moves.new.counts.items
    (λ k. ap (is_move (get_or c.args.edges.now k none) c.in-Event.event j.from) c.rows_behind.ensures ∙ event-takes (get_or c.args.edges.now k none) j c.in-Event.event (sym c.if-not-is_run.ensures) c.in-Event.is) (moves none many))
    c.count_moves.ensures
