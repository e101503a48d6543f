use Rattle.std.proofs.Common.{◌≡◌, ◌+◌, length}
use Rattle.rv_dot.specs.Runs.{pair_len}
use Rattle.rv_dot.proofs.Scans.{counted_on}
use Rattle.rv_dot.proofs.runs.pair_len.Given as goal

abbrev pub invariant-loop-rest : goal.invariant-loop-rest
invariant-loop-rest l = record { value : counted_on l.len (pair_len l.one l.other l.rest) ≡ pair_len l.one l.other l.bytes; left : l.len + length l.rest ≡ length l.bytes }

abbrev pub decreases-loop-rest : goal.decreases-loop-rest
decreases-loop-rest l = length l.rest
