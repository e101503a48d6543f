use Rattle.std.proofs.Common.{◌≡◌, length, map}
use Rattle.rv_dot.specs.Gathered.{events_fit}
use Rattle.rv_dot.specs.inner.Held.{arc}
use Rattle.rv_dot.proofs.gather.events_fit.Given as goal

abbrev pub invariant-loop-rest : goal.invariant-loop-rest
invariant-loop-rest l = events_fit (map arc l.rest) ≡ events_fit (map arc l.arcs)

abbrev pub decreases-loop-rest : goal.decreases-loop-rest
decreases-loop-rest l = length l.rest
