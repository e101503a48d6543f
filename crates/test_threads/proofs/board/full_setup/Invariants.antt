use Rattle.std.proofs.Common.{◌≡◌, length}
use Rattle.test_threads.proofs.board.full_setup.Given as goal

abbrev pub invariant-loop : goal.invariant-loop
invariant-loop l = (length l.tables.items ≡ l.counter) × (length l.starts.items ≡ l.counter)
