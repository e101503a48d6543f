-- One place more, and then all of them.
use Rattle.std.proofs.Common.{ℕ, ◌<◌, List, length, get_or, ap, ◌∙◌, arith}
use Rattle.std.proofs.lemmas.List.{get_or_default}
use Rattle.rv_model.specs.declared.automaton.Edge.{Edge}
use Rattle.rv_reach.specs.inner.RowSets.{is_move}
use Rattle.rv_reach.proofs.CountLemmas.{counted-all, counted-one}
use Rattle.rv_reach.proofs.counters.count_moves.Goals as goal

pub loop-place-preserved : goal.loop-place-preserved
loop-place-preserved c = λ none.
    let edges : List Edge = c.args.edges.now in
    let place : ℕ = c.loop-place.place in
    let within : place < length edges = let a = c.loop-place-test.true in omega arith in
    counted-one (λ k. is_move (get_or edges k none) c.args.event c.args.from c.args.to) c.args.counts.now.items c.loop-place.counts.items c.count_place.new.counts.items place c.is_move.result (c.loop-place.invariant none)
    (c.is_move.ensures ∙ ap (λ (e : Edge). is_move e c.args.event c.args.from c.args.to) (get_or_default edges place _ none within))
    c.in_ok-count_place.ensures

pub returns : goal.returns
returns c = λ none many.
    counted-all (λ k. is_move (get_or c.args.edges.now k none) c.args.event c.args.from c.args.to) c.args.counts.now.items c.loop-place.counts.items c.loop-place.place (c.loop-place.invariant none)
    (let a = c.loop-place-test.false in omega arith)
