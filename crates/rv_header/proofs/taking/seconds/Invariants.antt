use Rattle.std.proofs.Common.{◌≡◌, ◌++◌, length, map}
use Rattle.rv_dot.specs.inner.Held.{bytes_of}
use Rattle.rv_header.specs.inner.Taking.{seconds}
use Rattle.rv_header.proofs.taking.seconds.Given as goal

abbrev pub invariant-loop-rest : goal.invariant-loop-rest
invariant-loop-rest l = map bytes_of l.found.items ++ seconds (map bytes_of l.rest) ≡ seconds (map bytes_of l.texts)

abbrev pub decreases-loop-rest : goal.decreases-loop-rest
decreases-loop-rest l = length l.rest
