-- A work's turns name its deliveries in order.
use Rattle.std.proofs.Common.{◌≤◌, length, sym, subst}
use Rattle.rv_model.specs.declared.work.Turn.{Turn}
use Rattle.rv_model.specs.Works.{IsWork}
use Rattle.rv_feed.proofs.LaneLemmas.{names-in}
use Rattle.rv_feed.proofs.order.play_next.Goals as goal

pub play_turn-requires-clause-order : goal.play_turn-requires-clause-order
play_turn-requires-clause-order g c =
    let w = (g.L.Keeper.lane c.args.lane.now).work in
    let t : Turn = c.turn_at-turn.result in
    subst (λ (x : Turn). x.from ≤ x.to) (sym (c.turn_at-turn.ensures t)) (names-in 0 w.turns (length w.deliveries) (subst IsWork c.work.ensures c.assert_invariant.ensures) c.args.place t c.requires.place).0

pub play_turn-requires-clause-in_list : goal.play_turn-requires-clause-in_list
play_turn-requires-clause-in_list g c =
    let w = (g.L.Keeper.lane c.args.lane.now).work in
    let t : Turn = c.turn_at-turn.result in
    subst (λ (x : Turn). x.to ≤ length w.deliveries) (sym (c.turn_at-turn.ensures t)) (names-in 0 w.turns (length w.deliveries) (subst IsWork c.work.ensures c.assert_invariant.ensures) c.args.place t c.requires.place).1

pub play_turn-requires-clause-kept : goal.play_turn-requires-clause-kept
play_turn-requires-clause-kept g c =
    let t : Turn = c.turn_at-turn.result in
    subst (λ (x : Turn). length (g.L.Keeper.lane c.args.lane.now).records ≤ x.from) (sym (c.turn_at-turn.ensures t)) (c.requires.kept t)
