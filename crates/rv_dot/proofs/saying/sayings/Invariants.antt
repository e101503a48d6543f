use Rattle.std.proofs.Common.{◌≡◌, take}
use Rattle.rv_dot.specs.inner.Held.{claims, sayings_claims}
use Rattle.rv_dot.proofs.saying.sayings.Given as goal

abbrev pub invariant-loop-fact : goal.invariant-loop-fact
invariant-loop-fact l = sayings_claims l.found.items ≡ claims (take l.fact-index l.facts)
