-- A look, and the deliveries that it enables.
use Rattle.std.proofs.Common.{◌≡◌, sym, ap, ◌∙◌, subst, arith}
use Rattle.rv_model.specs.Setups.{Setup}
use Rattle.rv_model.specs.Works.{Work}
use Rattle.rv_core.specs.Deliveries.{FitsDelivery}
use Rattle.rv_feed.proofs.PlaceLemmas.{place-inside, at-place, holds-at, kept-at}
use Rattle.rv_feed.proofs.TurnLemmas.{of-cpu, turn-start, turn-off, turn-all, turn-hidden, turn-shown, turn-last}
use Rattle.rv_feed.proofs.turn.play_turn.Goals as goal
use Rattle.rv_feed.proofs.turn.play_turn.Goals.{then-is_enabled_by+else-ends_script, else-is_enabled_by}

pub returns-then-has_bit : goal.returns-then-has_bit
returns-then-has_bit g c =
    of-cpu g.P.Player.does (ap (λ (w : Work). w.cpu) (c.behind-lane.view_is ∙ c.work.ensures)) (turn-off c.look-word.ensures (sym c.has_bit.ensures ∙ c.if-has_bit.true))

pub loop-place-init : goal.loop-place-init
loop-place-init g c = turn-start c.look-word.ensures

pub delivery_at-delivery-requires : goal.delivery_at-delivery-requires
delivery_at-delivery-requires g c = place-inside c.args.turn.now c.loop-place.invariant.kept c.loop-place.auto.place c.loop-place-test.true c.requires.in_list

pub serve-outcome-requires-clause-fits : goal.serve-outcome-requires-clause-fits
serve-outcome-requires-clause-fits g c =
    let inv = c.loop-place.invariant in
    let at = at-place c.args.turn.now inv.kept c.loop-place.auto.place c.loop-place-test.true c.requires.in_list c.delivery_at-delivery.ensures in
    let same = g.met.P.Player.same_setup c.behind-lane.inside.cpu _ _ _ inv.did in
    subst (λ (s : Setup). FitsDelivery s c.delivery_at-delivery.result) (sym same) (holds-at at (FitsDelivery (g.P.Player.setup c.args.player.now)) c.requires.fit)

pub returns-then-ends_script : goal.returns-then-ends_script
returns-then-ends_script g c =
    let inv = c.loop-place.invariant in
    let cpu = c.behind-lane.inside.cpu in
    let at = at-place c.args.turn.now inv.kept c.loop-place.auto.place c.loop-place-test.true c.requires.in_list c.delivery_at-delivery.ensures in
    of-cpu g.P.Player.does (ap (λ (w : Work). w.cpu) (c.behind-lane.view_is ∙ c.work.ensures))
    (turn-last inv at (g.met.P.Player.composes cpu)
    (sym c.is_enabled_by.ensures ∙ c.if-is_enabled_by.true) (g.met.P.Player.same_setup cpu _ _ _ inv.did) c.serve-outcome.ensures (kept-at c.args.turn.now.line c.look-word.result c.loop-place.place c.delivery_at-delivery.ensures c.keep.ensures c.has_bit-then-is_enabled_by.ensures)
    (sym c.has_bit.ensures ∙ c.if-has_bit.false) (sym c.ends_script.ensures ∙ c.if-ends_script.true) c.halt.ensures)

pub loop-place-preserved : goal.loop-place-preserved
loop-place-preserved g c =
    let inv = c.loop-place.invariant in
    let cpu = c.behind-lane.inside.cpu in
    let at = at-place c.args.turn.now inv.kept c.loop-place.auto.place c.loop-place-test.true c.requires.in_list c.delivery_at-delivery.ensures in
    elim c.if-is_enabled_by.branch [
      | then-is_enabled_by+else-ends_script w ↦ rw (w.player-is, w.lane-is) (turn-shown inv at (g.met.P.Player.composes cpu)
          (sym c.is_enabled_by.ensures ∙ w.if-is_enabled_by.true) (g.met.P.Player.same_setup cpu _ _ _ inv.did) w.serve-outcome.ensures (kept-at c.args.turn.now.line c.look-word.result c.loop-place.place c.delivery_at-delivery.ensures w.keep.ensures w.has_bit-then-is_enabled_by.ensures)
          (sym w.ends_script.ensures ∙ w.if-ends_script.false))
      | else-is_enabled_by w ↦ rw (w.player-is, w.lane-is) (turn-hidden inv at (sym c.is_enabled_by.ensures ∙ w.if-is_enabled_by.false))
    ]

pub returns : goal.returns
returns g c =
    let end : c.loop-place.place ≡ c.args.turn.now.to = let a = c.loop-place.auto.place-end c.requires.order in let b = c.loop-place-test.false in omega arith in
    of-cpu g.P.Player.does (ap (λ (w : Work). w.cpu) (c.behind-lane.view_is ∙ c.work.ensures)) (turn-all end (sym c.has_bit.ensures ∙ c.if-has_bit.false) c.loop-place.invariant)
