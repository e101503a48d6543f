use Rattle.std.proofs.Common.{◌≢◌, ◌<◌, ℕ}
use Rattle.rv_ltl.specs.declared.weight.Weight.TheVariants.{Open}
use Rattle.rv_ltl.specs.inner.Weights.{known_at}
use Rattle.rv_ltl.proofs.settle.settled_weight.Given as goal

abbrev pub invariant-loop-i : goal.invariant-loop-i
invariant-loop-i l = (i : ℕ) → i < l.i → known_at l.weights i ≢ Open
