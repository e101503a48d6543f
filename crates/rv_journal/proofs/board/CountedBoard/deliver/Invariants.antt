use Rattle.std.proofs.Common.{◌≡◌, ◌+◌}
use Rattle.rv_journal.specs.CountedSeats.{IsCountedSeat}
use Rattle.rv_journal.proofs.CountedRaceLemmas.{LostCounted}
use Rattle.rv_journal.proofs.board.CountedBoard.deliver.Given as goal

abbrev pub invariant-loop-lost : goal.invariant-loop-lost
invariant-loop-lost g l = record {
  table : l.seat-inside.token.table_id ≡ l.fn.seat.seat.board.table;
  seat : IsCountedSeat l.seat-inside.number l.seat-inside.end (l.seat-inside.left + 1) l.seat-inside.token.me;
  left : l.seat-inside.left + 1 ≡ l.fn.seat.left;
  lost : LostCounted l.initial.seat-inside.token.me.0 l.seat-inside.token.me.0 l.fn.slot l.lost l.raw;
}
