use Rattle.std.proofs.Common.{◌≡◌, [], drop}
use Rattle.std.specs.Prelude.{reverse}
use Rattle.rv_ltl.specs.inner.Machine.{defs, run}
use Rattle.rv_ltl.specs.inner.Weights.{weights_by, weight_at}
use Rattle.rv_ltl.proofs.weighing.weigh.Given as goal

abbrev pub invariant-code : goal.invariant-code
invariant-code l = run (weights_by (weight_at (defs l.definitions) l.weights)) (drop l.one-index l.code) (reverse l.stack.items) ≡ run (weights_by (weight_at (defs l.definitions) l.weights)) l.code []
