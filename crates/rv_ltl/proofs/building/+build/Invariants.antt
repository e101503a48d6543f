use Rattle.std.proofs.Common.{◌≡◌, ◌+◌, ◌*◌, ◌-◌, [], drop}
use Rattle.std.specs.Prelude.{map, reverse}
use Rattle.rv_model.specs.Formulas.{ltl}
use Rattle.rv_ltl.specs.inner.Machine.{defs, run}
use Rattle.rv_ltl.specs.inner.Collected.{built, ltls}
use Rattle.rv_ltl.proofs.building.+build.Given as goal

abbrev pub decreases-step : goal.decreases-step
decreases-step l = 2 * l.depth + 1

abbrev pub decreases-build : goal.decreases-build
decreases-build l = 2 * l.depth

abbrev pub invariant-build-code : goal.invariant-build-code
invariant-build-code l = run (ltls (built (defs l.definitions) l.atoms (l.depth - 1))) (drop l.one-index l.code) (reverse (map ltl l.stack.items)) ≡ run (ltls (built (defs l.definitions) l.atoms (l.depth - 1))) l.code []
