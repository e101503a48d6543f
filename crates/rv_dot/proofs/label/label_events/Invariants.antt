use Rattle.std.proofs.Common.{◌≡◌, ◌≤◌, ◌++◌, ℕ, length, map}
use Rattle.rv_dot.specs.Labels.{pieces_within, label_events}
use Rattle.rv_dot.specs.inner.Held.{bytes_of}
use Rattle.rv_dot.proofs.label.label_events.Given as goal

abbrev pub invariant-pieces : goal.invariant-pieces
invariant-pieces l = (n : ℕ) × (length l.rest ≤ n) × (map bytes_of l.found.items ++ pieces_within n l.rest ≡ label_events l.label)

abbrev pub decreases-pieces : goal.decreases-pieces
decreases-pieces l = length l.rest
