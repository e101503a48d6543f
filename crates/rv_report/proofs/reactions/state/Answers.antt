-- The first state whose row is in the set.
use Rattle.std.proofs.Common.{◌≡◌, ℕ, ◌+◌, ◌<◌, List, [], true, length, arith, sym, ap, ◌∙◌}
use Rattle.std.proofs.lemmas.Result.{IfOk-weaker}
use Rattle.std.proofs.lemmas.Option.{get_or_from_slice_get}
use Rattle.rv_model.specs.Numbers.{has_bit}
use Rattle.rv_model.specs.Reports.{state_text}
use Rattle.rv_report.proofs.StateLemmas.{state-at, state-none}
use Rattle.rv_report.proofs.reactions.state.Goals as goal

pub returns-then-has_bit : goal.returns-then-has_bit
returns-then-has_bit c =
    let states : List (List ℕ) = c.args.states.now in
    let place : ℕ = c.loop-place.place in
    let name : List ℕ = c.get.result.now in
    let below : place < length states = let a = c.loop-place-test.true in let b = c.len-place-end.ensures in omega arith in
    let row : 1 + place ≡ place + 1 = omega arith in
    let has : has_bit c.args.set (1 + place) ≡ true = ap (has_bit c.args.set) row ∙ sym c.has_bit.ensures ∙ c.if-has_bit.true in
    let is : state_text 1 states c.args.set ≡ name = state-at 1 states c.args.set place name below c.loop-place.invariant has ∙ get_or_from_slice_get states place name name c.get.ensures in
    IfOk-weaker c.new.result (λ made. made ≡ c.bytes.result.now) (λ made. made ≡ state_text 1 states c.args.set) (λ made e. e ∙ c.bytes.ensures ∙ sym is) c.new.ensures

pub returns : goal.returns
returns c =
    let states : List (List ℕ) = c.args.states.now in
    let none : state_text 1 states c.args.set ≡ [] = state-none 1 states c.args.set (λ j lt. c.loop-place.invariant j (let a = c.loop-place-test.false in let b = c.len-place-end.ensures in omega arith)) in
    IfOk-weaker c.new-2.result (λ made. made ≡ []) (λ made. made ≡ state_text 1 states c.args.set) (λ made e. e ∙ sym none) c.new-2.ensures
