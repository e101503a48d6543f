use Rattle.rv_ltl.specs.inner.Machine.{defs}
use Rattle.rv_ltl.proofs.Learning.{settled_answer, settled_value}
use Rattle.rv_ltl.proofs.replacing.weight_at.Goals as goal

pub returns-clause-ends : goal.returns-clause-ends
returns-clause-ends c =
    let known = c.settled_weight.ensures in
    settled_answer (defs c.args.definitions.now) c.in_ok-weights.weights.items c.deref.result.now c.settled_weight.result c.in_ok-weights.ensures c.deref.ensures.value known.some known.none

pub returns-clause-value : goal.returns-clause-value
returns-clause-value c =
    settled_value (defs c.args.definitions.now) c.in_ok-weights.weights.items c.deref.result.now c.args.place c.settled_weight.result c.in_ok-weights.ensures c.deref.ensures.value c.requires.place c.settled_weight.ensures.value
