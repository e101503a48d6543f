use Rattle.std.proofs.Common.{◌≡◌, ℕ, Bool, true, false, length, sym, subst, ◌∙◌, arith}
use Rattle.rv_ltl.specs.inner.Machine.{defs}
use Rattle.rv_ltl.specs.inner.Weights.{Learns, Passes}
use Rattle.rv_ltl.proofs.Elements.{length-defs}
use Rattle.rv_ltl.proofs.Learning.{learnt, nothing_learnt}
use Rattle.rv_ltl.proofs.settle.pass.Goals as goal
use Rattle.rv_ltl.proofs.settle.pass.Goals.{then-learnt, else-learnt}

pub loop-i-preserved : goal.loop-i-preserved
loop-i-preserved c =
    let ds = defs c.args.definitions.now in
    let P : Bool → Type 0 = λ b. Learns ds c.loop-i.weights.items c.learn.new.weights.items c.loop-i.i b in
    elim c.if-learnt.branch [
      | then-learnt w ↦
          let l : P true = subst P w.if-learnt.true c.in_ok-learnt.ensures in
          rw w.more-is (learnt ds c.args.weights.now.items c.loop-i.weights.items c.learn.new.weights.items c.loop-i.more c.loop-i.i c.requires.distinct (omega (arith, length-defs c.args.definitions.now)) c.loop-i.invariant l)
      | else-learnt w ↦
          let l : P false = subst P w.if-learnt.false c.in_ok-learnt.ensures in
          rw w.more-is (nothing_learnt ds c.args.weights.now.items c.loop-i.weights.items c.learn.new.weights.items c.loop-i.more c.loop-i.i c.loop-i.invariant l)
    ]

pub loop-i-init : goal.loop-i-init
loop-i-init c = record {
  each = c.requires.each ∙ sym (length-defs c.args.definitions.now);
  sure = c.requires.sure;
  fewer = omega arith;
  stuck = λ no i below. absurd (omega (arith, below));
}

pub returns : goal.returns
returns c =
    let ds = c.args.definitions.now in
    let P : ℕ → Type 0 = λ n. Passes (defs ds) c.args.weights.now.items c.loop-i.weights.items c.loop-i.more n in
    let all : c.loop-i.i ≡ length ds = omega arith in
    subst P all c.loop-i.invariant
