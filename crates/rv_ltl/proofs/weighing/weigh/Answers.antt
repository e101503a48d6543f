use Rattle.std.proofs.Common.{refl, arith}
use Rattle.std.specs.Prelude.{reverse}
use Rattle.rv_ltl.specs.inner.Machine.{defs}
use Rattle.rv_ltl.specs.inner.Weights.{weights_by, weight_at}
use Rattle.rv_ltl.proofs.Running.{run_more, last_value, no_value}
use Rattle.rv_ltl.proofs.weighing.weigh.Goals as goal

pub code-init : goal.code-init
code-init c = rw c.new-stack.ensures.items refl

pub code-preserved : goal.code-preserved
code-preserved c =
    let v = weights_by (weight_at (defs c.args.definitions.now) c.args.weights.now) in
    run_more v c.args.code.now c.code.one-index _ (reverse c.code.stack.items) (reverse c.step.new.stack.items) _ c.code-test.true c.in_ok-step.ensures c.code.invariant

pub returns-in-Some : goal.returns-in-Some
returns-in-Some c =
    let v = weights_by (weight_at (defs c.args.definitions.now) c.args.weights.now) in
    last_value v c.args.code.now c.code.one-index c.code.stack.items c.pop.new.self.items c.in-Some.weight c.code-test.false c.in-Some.ensures.items c.code.invariant

pub returns : goal.returns
returns c =
    let v = weights_by (weight_at (defs c.args.definitions.now) c.args.weights.now) in
    no_value v c.args.code.now c.code.one-index c.code.stack.items c.code-test.false (omega (arith, c.in-None.ensures.cases.0, c.code.stack.ok.0)) c.code.invariant
