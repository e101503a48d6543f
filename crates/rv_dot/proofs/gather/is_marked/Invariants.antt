use Rattle.std.proofs.Common.{◌≡◌, length}
use Rattle.rv_dot.specs.Gathered.{is_marked}
use Rattle.rv_dot.specs.inner.Held.{sayings_claims}
use Rattle.rv_dot.proofs.gather.is_marked.Given as goal

abbrev pub invariant-loop-rest : goal.invariant-loop-rest
invariant-loop-rest l = is_marked (sayings_claims l.rest) l.state ≡ is_marked (sayings_claims l.said) l.state

abbrev pub decreases-loop-rest : goal.decreases-loop-rest
decreases-loop-rest l = length l.rest
