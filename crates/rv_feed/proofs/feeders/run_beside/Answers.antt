-- What both threads borrow may cross to them, the board among it.
use denote.Param.Send.{sendable}
use Rattle.std.proofs.Crossing.{crosses}
use Rattle.rv_board.proofs.ThreadLemmas.{board-sync}
use Rattle.rv_feed.proofs.changer.Changer.TheSendSync.{the_send as changer-send}
use Rattle.rv_feed.proofs.feeders.run_beside.Goals as goal

pub join_mut-requires-send-F : goal.join_mut-requires-send-F
join_mut-requires-send-F g c κs = λ _. let send = c.type_bounds.send-G in search (sendable, crosses, board-sync, changer-send) depth 20
