use Rattle.std.proofs.Common.{arith}
use Rattle.rv_board.proofs.MeetLemmas.{cut_range}
use Rattle.rv_board.proofs.SplitLemmas.{splits}
use Rattle.rv_board.proofs.board.Board.split.Goals as goal

pub cut-token-requires-clause-allowed : goal.cut-token-requires-clause-allowed
cut-token-requires-clause-allowed c =
    let range = cut_range c.seat.view_is c.requires.range in
    let low = range.0 in
    let high = range.1 in
    splits c.self.inside.table.shared.key c.seat.inside.token.id c.seat.inside.token.me.0 c.args.number (omega arith) (omega arith)
