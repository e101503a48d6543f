use Rattle.rv_ltl.specs.inner.Machine.{defs}
use Rattle.rv_ltl.specs.inner.Weights.{Passes}
use Rattle.rv_ltl.proofs.settle.pass.Given as goal

abbrev pub invariant-loop-i : goal.invariant-loop-i
invariant-loop-i l = Passes (defs l.definitions) l.initial.weights.items l.weights.items l.more l.i
