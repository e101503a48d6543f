use Rattle.std.proofs.Common.{◌≡◌}
use Rattle.std.specs.List.{All}
use Rattle.std.specs.Vec.Iter.{into_iter_items}
use Rattle.test_threads.proofs.seats.join_all.Given as goal

abbrev pub invariant-loop-from : goal.invariant-loop-from
invariant-loop-from l = (l.seat.board ≡ l.fn.board) × All (λ s. s.board ≡ l.fn.board) (into_iter_items l.from-iterator)
