use Rattle.std.proofs.Common.{◌+◌, ◌*◌, ◌∙◌, ℕ, Bool, arith, sym, ap, cond}
use Rattle.rv_dot.specs.Gathered.{is_marked}
use Rattle.rv_dot.specs.inner.Held.{sayings_claims}
use Rattle.rv_dot.proofs.BitLaws.{bits_small, bits_more, bits_from}
use Rattle.rv_dot.proofs.drawing.marked.Goals as goal

pub more-bits-requires : goal.more-bits-requires
more-bits-requires c = rw c.states.invariant.bits (bits_small (is_marked (sayings_claims c.args.said.now)) c.args.states.now c.states.count c.states-test.true c.requires)

pub states-preserved : goal.states-preserved
states-preserved c = record {
  bits = c.more-bits.ensures ∙ ap (λ (n : ℕ). cond c.is_marked.result 1 0 + 2 * n) c.states.invariant.bits
      ∙ ap (λ (b : Bool). cond b 1 0 + 2 * bits_from (is_marked (sayings_claims c.args.said.now)) c.states.count c.args.states.now) c.is_marked.ensures
      ∙ sym (bits_more (is_marked (sayings_claims c.args.said.now)) c.args.states.now c.states.count _ c.states-test.true c.states.invariant.within);
  within = omega (arith, c.states.invariant.within);
}
