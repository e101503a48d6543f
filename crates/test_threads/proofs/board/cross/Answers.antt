-- A board may be read by several threads at once.
use denote.Param.Send.{sendable}
use Rattle.rv_board.proofs.ThreadLemmas.{board-sync}
use Rattle.test_threads.proofs.board.cross.Goals as goal

pub shared-requires-sync-T : goal.shared-requires-sync-T
shared-requires-sync-T c κs = search (sendable, board-sync) depth 20
