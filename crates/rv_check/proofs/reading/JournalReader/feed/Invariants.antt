-- The text has grown by the front of the piece that was read.
use Rattle.std.proofs.Common.{◌≡◌, ◌++◌, List, ℕ, length}
use Rattle.rv_check.specs.Readings.{grown}
use Rattle.rv_check.proofs.reading.JournalReader.feed.Given as goal

abbrev pub invariant-loop-end : goal.invariant-loop-end
invariant-loop-end l = (front : List ℕ) × (l.piece ≡ front ++ l.rest) × (l.self ≡ grown l.fn.self front l.self.stopped)

abbrev pub decreases-loop-end : goal.decreases-loop-end
decreases-loop-end l = length l.rest
