use Rattle.std.proofs.Common.{◌≡◌, []}
use Rattle.rv_board.proofs.RaceLemmas.{Lost, opened}
use Rattle.rv_board.proofs.board.Board.deliver.Given as goal

abbrev pub invariant-loop-lost : goal.invariant-loop-lost
invariant-loop-lost g l = record {
  table : l.seat-inside.token.table_id ≡ l.fn.seat.board.table;
  empty : l.seat-inside.token.me.1 ≡ [];
  number : l.seat-inside.number ≡ l.fn.seat.part.number;
  end : l.seat-inside.end ≡ l.fn.seat.part.end;
  lost : Lost (opened l.fn.seat) l.seat-inside.token.me.0 l.fn.slot l.lost l.word;
}
