use Rattle.std.proofs.Common.{◌≡◌, ◌-◌, ℕ, get_or, arith, sym, ap, ◌∙◌}
use Rattle.rv_model.specs.declared.work.Turn.{Turn}
use Rattle.rv_model.proofs.SeatLemmas.{line-index}
use Rattle.rv_feed.specs.Lane.{LaneValue}
use Rattle.rv_feed.proofs.order.line_of.Goals as goal

pub returns-then-place-turn_count-clause-line : goal.returns-then-place-turn_count-clause-line
returns-then-place-turn_count-clause-line g c = λ pending.
    let lane : LaneValue = g.L.Keeper.lane c.args.lane.now in
    let turns = lane.work.turns in
    let d : Turn = c.turn_at.result in
    let cpu : c.seat_of.result - 2 ≡ lane.work.cpu = let s = c.seat_of.ensures in omega arith in
    ap (λ (t : Turn). t.line) (c.turn_at.ensures d) ∙ ap (λ (n : ℕ). (get_or turns (get_or c.args.places.now n 0) d).line) cpu ∙ sym (line-index turns (get_or c.args.places.now lane.work.cpu 0) d pending)
