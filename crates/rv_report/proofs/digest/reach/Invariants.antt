-- The tallies that were added are empty, and there are more of them.
use Rattle.std.proofs.Common.{◌≡◌, ℕ, ◌+◌, ◌-◌, length}
use Rattle.rv_report.specs.Tallies.{tally_at}
use Rattle.rv_report.proofs.digest.reach.Given as goal

abbrev pub invariant-loop-alloc : goal.invariant-loop-alloc
invariant-loop-alloc l = (k : ℕ) → tally_at l.tallies.items k ≡ tally_at l.fn.tallies.items k

abbrev pub decreases-loop-alloc : goal.decreases-loop-alloc
decreases-loop-alloc l = (l.monitor + 1) - length l.tallies.items
