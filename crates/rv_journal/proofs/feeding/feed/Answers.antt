-- Turn by turn, and delivery by delivery.
use Rattle.std.proofs.Common.{◌≡◌, ◌<◌, length, ap, arith, length-take}
use Rattle.rv_model.specs.Works.{Work}
use Rattle.rv_journal.specs.CountedLanes.{FitsCounted}
use Rattle.rv_journal.proofs.CountedFeedLemmas.{in-turn, turn-made, delivery-holds, fed-next}
use Rattle.rv_journal.proofs.feeding.feed.Goals as goal

pub loop-number-init : goal.loop-number-init
loop-number-init g c =
    let lt : c.loop-place.place < length c.args.lane.now.work.turns = let a = c.loop-place-test.true in let b = c.turn_count-place-end.ensures in omega arith in
    in-turn c.loop-place.invariant lt c.turn_at-turn.ensures

pub delivery_at-delivery-requires : goal.delivery_at-delivery-requires
delivery_at-delivery-requires g c =
    let so_far = c.loop-number.invariant in
    let few = so_far.within in
    let test = c.loop-number-test.true in
    let same : length c.loop-number.lane.work.deliveries ≡ length c.args.lane.now.work.deliveries = ap (λ (v : Work). length v.deliveries) so_far.fed.work_is in
    omega arith

pub serve-told-requires-clause-fits : goal.serve-told-requires-clause-fits
serve-told-requires-clause-fits g c = delivery-holds c.loop-number.invariant c.loop-number-test.true c.delivery_at-delivery.ensures (FitsCounted c.args.board.now.setup) c.requires.fit

pub serve-told-requires-clause-left : goal.serve-told-requires-clause-left
serve-told-requires-clause-left g c =
    let so_far = c.loop-number.invariant in
    let few = so_far.within in
    let test = c.loop-number-test.true in
    let left = so_far.fed.feeds.left in
    let room = c.requires.left in
    let made = length-take c.loop-number.number c.args.lane.now.work.deliveries in
    omega arith

pub keep-requires : goal.keep-requires
keep-requires g c =
    let so_far = c.loop-number.invariant in
    let few = so_far.within in
    let test = c.loop-number-test.true in
    let count = so_far.fed.count in
    let room = so_far.fed.room in
    omega arith

pub loop-number-preserved : goal.loop-number-preserved
loop-number-preserved g c = fed-next c.loop-number.invariant c.loop-number-test.true c.delivery_at-delivery.ensures c.serve-told.ensures c.keep.ensures

pub loop-place-preserved : goal.loop-place-preserved
loop-place-preserved g c = turn-made c.loop-number.invariant (let end = c.loop-number-test.false in omega arith)
