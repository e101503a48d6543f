-- The board's delivery, to the slot of the instance.
use Rattle.std.proofs.Common.{List, ℕ, ◌≡◌, ◌-◌, ap, sym, ◌∙◌, subst}
use Rattle.rv_model.specs.Setups.{slot_of}
use Rattle.rv_board.specs.Deliveries.{DeliversOrStops}
use Rattle.rv_board.specs.Seats.{BoardId}
use Rattle.rv_core.specs.Advance.{FitsTable}
use Rattle.rv_core.specs.Setup.{table_at}
use Rattle.rv_journal.specs.CountedWords.{IsBelow, rows_at}
use Rattle.rv_journal.specs.CountedSeats.{Counts}
use Rattle.rv_journal.specs.CountedLanes.{slot_at}
use Rattle.rv_journal.proofs.CountedFeedLemmas.{fed-one}
use Rattle.rv_journal.proofs.feeding.serve.Goals as goal

pub deliver-requires-clause-hit : goal.deliver-requires-clause-hit
deliver-requires-clause-hit g c =
    let d = c.args.delivery.now in
    let at = c.slot-slot.ensures.slot ∙ ap (λ (shape : List ℕ). slot_of shape d.monitor d.instance) c.shape.ensures in
    subst (λ (slot : ℕ). FitsTable (table_at c.args.board.now.setup slot) d.hit) (sym at) c.requires.fits.hit

pub deliver-requires-clause-levels : goal.deliver-requires-clause-levels
deliver-requires-clause-levels g c =
    let d = c.args.delivery.now in
    let at = c.slot-slot.ensures.slot ∙ ap (λ (shape : List ℕ). slot_of shape d.monitor d.instance) c.shape.ensures in
    subst (λ (slot : ℕ). IsBelow (32 - rows_at c.args.board.now.setup slot) d.hit.what) (sym at) c.requires.fits.levels

pub returns : goal.returns
returns g c =
    let d = c.args.delivery.now in
    let old = c.args.seat.now in
    let at : c.slot-slot.result ≡ slot_at c.args.seat.now.seat.board.setup d =
    c.slot-slot.ensures.slot ∙ ap (λ (shape : List ℕ). slot_of shape d.monitor d.instance) c.shape.ensures ∙ ap (λ (b : BoardId). slot_of b.setup.shape d.monitor d.instance) (sym c.requires.board) in
    fed-one c.args.seat.now c.deliver.new.seat d c.deliver.result
    (subst (λ (slot : ℕ). Counts c.args.seat.now.seat c.deliver.new.seat.seat slot c.deliver.result) at c.deliver.ensures.counts)
    (subst (λ (slot : ℕ). DeliversOrStops c.args.seat.now.seat c.deliver.new.seat.seat slot d.hit c.deliver.result.outcome) at c.deliver.ensures.delivers)
    c.deliver.ensures.left
