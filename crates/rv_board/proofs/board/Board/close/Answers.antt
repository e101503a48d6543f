use Rattle.std.proofs.Common.{sym, subst, arith}
use Rattle.rv_board.specs.Seats.{Closes}
use Rattle.rv_board.proofs.AllowedLemmas.{loads}
use Rattle.rv_board.proofs.CallLemmas.{closes}
use Rattle.rv_board.proofs.MeetLemmas.{meets}
use Rattle.rv_board.proofs.SpacingLemmas.{front-place}
use Rattle.rv_board.proofs.board.Board.close.Goals as goal

pub load-requires : goal.load-requires
load-requires c = let m = meets c.seat.view_is c.requires c.self.view_is c.self.invariant in (m.table_is, m.front, loads _ _ c.seat.invariant m.setup_is 0 (front-place _) (omega arith))

pub returns : goal.returns
returns c = subst (Closes c.args.seat) (sym c.of.ensures) (closes c.seat.view_is c.load.ensures.2.0)
