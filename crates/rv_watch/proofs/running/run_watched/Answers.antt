-- What both threads borrow may cross to them, the board among it.
use denote.Param.Send.{sendable}
use Rattle.std.proofs.Crossing.{crosses}
use Rattle.rv_board.proofs.ThreadLemmas.{board-sync}
use Rattle.rv_watch.proofs.running.run_watched.Goals as goal

pub join_mut-requires-send-F : goal.join_mut-requires-send-F
join_mut-requires-send-F g c κs = λ _. let send = c.type_bounds.send-F in let sync = c.type_bounds.sync-R in search (sendable, crosses, board-sync) depth 20
