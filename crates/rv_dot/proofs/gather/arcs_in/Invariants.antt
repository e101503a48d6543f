use Rattle.std.proofs.Common.{◌≡◌, take, map}
use Rattle.rv_dot.specs.Gathered.{arcs_in}
use Rattle.rv_dot.specs.inner.Held.{sayings_claims, arc}
use Rattle.rv_dot.proofs.gather.arcs_in.Given as goal

abbrev pub invariant-sayings : goal.invariant-sayings
invariant-sayings l = map arc l.found.items ≡ arcs_in (sayings_claims (take l.saying-index l.said))
