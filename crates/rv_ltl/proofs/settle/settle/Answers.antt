use Rattle.std.proofs.Common.{◌≡◌, ℕ, ◌+◌, List, length, sym, ap, subst, ◌∙◌, arith}
use Rattle.std.proofs.lemmas.List.{length_push}
use Rattle.rv_model.specs.Numbers.{one_if}
use Rattle.rv_ltl.specs.declared.weight.Weight.{Weight}
use Rattle.rv_ltl.specs.declared.weight.Weight.TheVariants.{Open}
use Rattle.rv_ltl.specs.inner.Machine.{defs}
use Rattle.rv_ltl.specs.inner.Weights.{IsStuck, known_at}
use Rattle.rv_ltl.proofs.Elements.{length-defs, push-default}
use Rattle.rv_ltl.proofs.Learning.{settled}
use Rattle.rv_ltl.proofs.settle.settle.Goals as goal

pub returns : goal.returns
returns c =
    let ds = c.args.definitions.now in
    let ws = c.loop-goes_on.weights.items in
    let P : ℕ → Type 0 = λ n. IsStuck (defs ds) ws n in
    let stuck : IsStuck (defs ds) ws (length (defs ds)) = subst P (sym (length-defs ds)) (c.loop-goes_on.invariant.stuck c.loop-goes_on-test.false) in
    settled (defs ds) ws (c.loop-goes_on.invariant.each ∙ sym (length-defs ds)) c.requires.distinct c.loop-goes_on.invariant.sure stuck

pub loop-preserved : goal.loop-preserved
loop-preserved c =
    let pushed = c.in_ok-push.ensures.items in
    let known = c.loop.invariant in
    (ap length pushed ∙ length_push c.loop.weights.items Open ∙ ap (λ (n : ℕ). n + 1) known.0, λ i. ap (λ (ws : List Weight). known_at ws i) pushed ∙ push-default c.loop.weights.items Open i ∙ known.1 i)

pub loop-goes_on-init : goal.loop-goes_on-init
loop-goes_on-init c = record {
  each = omega (arith, c.loop.invariant.0);
  sure = λ i below known. absurd (known (c.loop.invariant.1 i));
  stuck = λ no. absurd (cc);
}

pub loop-goes_on-smaller : goal.loop-goes_on-smaller
loop-goes_on-smaller c =
    let one : one_if c.loop-goes_on.goes_on ≡ 1 = ap one_if c.loop-goes_on-test.true in
    omega (arith, one, c.in_ok-goes_on.ensures.fewer)

pub loop-goes_on-preserved : goal.loop-goes_on-preserved
loop-goes_on-preserved c =
    let passed = c.in_ok-goes_on.ensures in
    record { each = passed.each ∙ length-defs c.args.definitions.now; sure = passed.sure; stuck = passed.stuck }
