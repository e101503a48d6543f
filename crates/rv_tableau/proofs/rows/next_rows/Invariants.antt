use Rattle.std.proofs.Common.{◌≡◌, ◌+◌, ◌≤◌, drop, length}
use Rattle.rv_tableau.specs.Rows.{rows_in}
use Rattle.rv_tableau.proofs.rows.next_rows.Given as goal

abbrev pub invariant-loop-k : goal.invariant-loop-k
invariant-loop-k l = (l.k ≤ length l.nodes) × (l.out ≡ rows_in l.cover (l.k + 1) (drop l.k l.nodes))

abbrev pub decreases-loop-k : goal.decreases-loop-k
decreases-loop-k l = l.k
