-- A turn after turns.
use Rattle.std.proofs.Common.{◌≤◌, length, sym, subst, arith}
use Rattle.rv_model.specs.Works.{IsWork}
use Rattle.rv_board.specs.Seats.{BoardId}
use Rattle.rv_feed.specs.Feeding.{CanFeed}
use Rattle.rv_feed.specs.Lane.{panics_of}
use Rattle.rv_feed.proofs.FedLemmas.{fed-none, next-turn, fed-more, fed-last, fed-all}
use Rattle.rv_feed.proofs.feeder.play.Goals as goal

pub loop-place-init : goal.loop-place-init
loop-place-init g c =
    let can = subst (λ (b : BoardId). CanFeed b (g.L.Keeper.lane c.args.lane.now)) (sym c.requires.board) c.requires.lane in
    fed-none (panics_of c.args.reactors.now) c.args.seat.now (g.L.Keeper.lane c.args.lane.now) c.number.ensures.sound can

pub play_turn-requires-clause-order : goal.play_turn-requires-clause-order
play_turn-requires-clause-order g c = (next-turn c.loop-place.invariant (subst IsWork c.work.ensures c.assert_invariant.ensures) (let a = c.loop-place-test.true in let b = c.turn_count-place-end.ensures in omega arith) c.turn_at-turn.ensures).order

pub play_turn-requires-clause-in_list : goal.play_turn-requires-clause-in_list
play_turn-requires-clause-in_list g c = (next-turn c.loop-place.invariant (subst IsWork c.work.ensures c.assert_invariant.ensures) (let a = c.loop-place-test.true in let b = c.turn_count-place-end.ensures in omega arith) c.turn_at-turn.ensures).in_list

pub play_turn-requires-clause-kept : goal.play_turn-requires-clause-kept
play_turn-requires-clause-kept g c = (next-turn c.loop-place.invariant (subst IsWork c.work.ensures c.assert_invariant.ensures) (let a = c.loop-place-test.true in let b = c.turn_count-place-end.ensures in omega arith) c.turn_at-turn.ensures).kept

pub returns-then-play_turn : goal.returns-then-play_turn
returns-then-play_turn g c =
    let next = next-turn c.loop-place.invariant (subst IsWork c.work.ensures c.assert_invariant.ensures) (let a = c.loop-place-test.true in let b = c.turn_count-place-end.ensures in omega arith) c.turn_at-turn.ensures in
    fed-last c.loop-place.invariant next c.if-play_turn.true c.play_turn.ensures

pub loop-place-preserved : goal.loop-place-preserved
loop-place-preserved g c =
    let next = next-turn c.loop-place.invariant (subst IsWork c.work.ensures c.assert_invariant.ensures) (let a = c.loop-place-test.true in let b = c.turn_count-place-end.ensures in omega arith) c.turn_at-turn.ensures in
    fed-more c.loop-place.invariant next (subst IsWork c.work.ensures c.assert_invariant.ensures) c.if-play_turn.false c.play_turn.ensures

pub returns : goal.returns
returns g c =
    let all : length (g.L.Keeper.lane c.args.lane.now).work.turns ≤ c.loop-place.place = let a = c.loop-place-test.false in let b = c.turn_count-place-end.ensures in omega arith in
    fed-all (panics_of c.args.reactors.now) c.args.seat.now c.loop-place.seat (g.L.Keeper.lane c.args.lane.now) (g.L.Keeper.lane c.loop-place.lane) c.loop-place.place c.loop-place.invariant all
