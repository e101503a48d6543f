use Rattle.std.proofs.Common.{◌≡◌, length}
use Rattle.std.specs.List.{list_all}
use Rattle.rv_dot.specs.Gathered.{fits}
use Rattle.rv_dot.specs.inner.Held.{sayings_claims}
use Rattle.rv_dot.proofs.gather.all_fit.Given as goal

abbrev pub invariant-loop-rest : goal.invariant-loop-rest
invariant-loop-rest l = list_all fits (sayings_claims l.rest) ≡ list_all fits (sayings_claims l.said)

abbrev pub decreases-loop-rest : goal.decreases-loop-rest
decreases-loop-rest l = length l.rest
