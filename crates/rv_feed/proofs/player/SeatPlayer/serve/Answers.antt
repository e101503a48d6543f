-- The board's delivery or end, to the slot of the instance.
use Rattle.std.proofs.Common.{List, ℕ, ap, sym, ◌∙◌, subst}
use Rattle.rv_model.specs.Setups.{slot_of}
use Rattle.rv_core.specs.Advance.{FitsHit}
use Rattle.rv_core.specs.Deliveries.{FitsDelivery}
use Rattle.rv_core.specs.Setup.{table_at}
use Rattle.rv_board.specs.Seats.{BoardId}
use Rattle.rv_feed.proofs.ActLemmas.{fits-delivered}
use Rattle.rv_feed.proofs.AddLemmas.{serves, serves-end}
use Rattle.rv_feed.proofs.player.SeatPlayer.serve.Goals as goal

pub deliver-requires-clause-hit : goal.deliver-requires-clause-hit
deliver-requires-clause-hit g c =
    let d = c.args.delivery.now in
    let s = c.args.board.now.setup in
    let fits = subst (λ (b : BoardId). FitsDelivery b.setup d) c.requires.of c.requires.fits in
    let at = c.slot-slot.ensures.slot ∙ ap (λ (shape : List ℕ). slot_of shape d.monitor d.instance) c.shape.ensures in
    fits-delivered s c.slot-slot.result d.hit (sym c.is_end.ensures ∙ c.if-is_end.false) (subst (λ (n : ℕ). FitsHit (table_at s n) d.hit) (sym at) fits.hit)

pub returns-then-is_end : goal.returns-then-is_end
returns-then-is_end g c =
    let d = c.args.delivery.now in
    serves-end c.args.self.now c.end.new.seat d c.slot-slot.result
    (c.slot-slot.ensures.slot ∙ ap (λ (shape : List ℕ). slot_of shape d.monitor d.instance) c.shape.ensures ∙ ap (λ (b : BoardId). slot_of b.setup.shape d.monitor d.instance) (sym c.requires.of))
    (sym c.is_end.ensures ∙ c.if-is_end.true)
    c.end.ensures

pub returns : goal.returns
returns g c =
    let d = c.args.delivery.now in
    serves c.args.self.now c.deliver.new.seat d c.slot-slot.result c.deliver.result
    (c.slot-slot.ensures.slot ∙ ap (λ (shape : List ℕ). slot_of shape d.monitor d.instance) c.shape.ensures ∙ ap (λ (b : BoardId). slot_of b.setup.shape d.monitor d.instance) (sym c.requires.of))
    (sym c.is_end.ensures ∙ c.if-is_end.false)
    c.deliver.ensures
