use Rattle.std.proofs.Common.{◌≡◌, ◌+◌}
use Rattle.std.specs.List.{All}
use Rattle.test_threads.proofs.seats.split_all.Given as goal

abbrev pub invariant-loop-above : goal.invariant-loop-above
invariant-loop-above l = record {
  board : l.seat.board ≡ l.fn.board;
  number : l.seat.part.number ≡ 0;
  end : l.seat.part.end + l.above ≡ 67;
  seats : All (λ s. s.board ≡ l.fn.board) l.seats.items;
}
