use Rattle.rv_board.proofs.AllowedLemmas.{looks}
use Rattle.rv_board.proofs.CallLemmas.{looks-by}
use Rattle.rv_board.proofs.MeetLemmas.{meets}
use Rattle.rv_board.proofs.board.Board.look.Goals as goal

pub load-requires : goal.load-requires
load-requires c = let m = meets c.seat.view_is c.requires c.self.view_is c.self.invariant in (m.table_is, m.front, looks _ _ c.seat.invariant m.setup_is)

pub returns : goal.returns
returns c = looks-by c.seat.invariant c.seat.view_is c.load.ensures.0 c.load.ensures.2
