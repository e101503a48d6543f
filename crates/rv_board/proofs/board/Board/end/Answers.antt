use Rattle.std.proofs.Common.{ap}
use Rattle.rv_model.specs.declared.entry.Act.TheVariants.{End}
use Rattle.rv_board.proofs.AllowedLemmas.{ends}
use Rattle.rv_board.proofs.CallLemmas.{acts-as}
use Rattle.rv_board.proofs.MeetLemmas.{meets, opening_at}
use Rattle.rv_board.proofs.SpacingLemmas.{slot-at}
use Rattle.rv_board.proofs.board.Board.end.Goals as goal

pub swap-requires : goal.swap-requires
swap-requires c =
    let m = meets c.seat.view_is c.requires.board c.self.view_is c.self.invariant in
    let at = m.stands c.requires.slot c.place.ensures.place in
    let o = c.opening-opening.ensures in
    (m.table_is, at.below, ends _ _ c.seat.invariant m.setup_is c.args.slot _ at.at at.low (opening_at c.args.slot _ c.self.invariant.0 o.fits o.word))

pub returns : goal.returns
returns c =
    let m = meets c.seat.view_is c.requires.board c.self.view_is c.self.invariant in
    let at = m.stands c.requires.slot c.place.ensures.place in
    acts-as (ap End (slot-at c.args.slot m.setup_is at.at)) c.seat.invariant c.seat.view_is c.swap.ensures.0 c.swap.ensures.2
