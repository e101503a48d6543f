use Rattle.std.proofs.Common.{inr, refl, arith}
use Rattle.rv_board.proofs.AllowedLemmas.{raises}
use Rattle.rv_board.proofs.CallLemmas.{acts-as}
use Rattle.rv_board.proofs.MeetLemmas.{meets}
use Rattle.rv_board.proofs.board.Board.halt.Goals as goal

pub fetch_or-requires : goal.fetch_or-requires
fetch_or-requires c =
    let m = meets c.seat.view_is c.requires c.self.view_is c.self.invariant in
    (m.table_is, m.front, raises _ _ c.seat.invariant m.setup_is _ (omega arith) (inr (inr refl)))

pub returns : goal.returns
returns c = acts-as refl c.seat.invariant c.seat.view_is c.fetch_or.ensures.0 c.fetch_or.ensures.2
