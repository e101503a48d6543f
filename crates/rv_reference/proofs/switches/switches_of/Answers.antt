use Rattle.std.proofs.Common.{reverse}
use Rattle.rv_model.specs.SharedWords.{switch}
use Rattle.rv_reference.proofs.NumberLemmas.{number-none, number-below, number-step}
use Rattle.rv_reference.proofs.switches.switches_of.Goals as goal

pub loop-bit-init : goal.loop-bit-init
loop-bit-init c = number-none (switch c.args.opening (reverse c.args.history.now))

pub with_switch-set-requires-clause-above : goal.with_switch-set-requires-clause-above
with_switch-set-requires-clause-above c = number-below (switch c.args.opening (reverse c.args.history.now)) c.loop-bit.bit c.loop-bit.set c.loop-bit.invariant

pub loop-bit-preserved : goal.loop-bit-preserved
loop-bit-preserved c = number-step (switch c.args.opening (reverse c.args.history.now)) c.loop-bit.bit c.loop-bit.set c.switch.result c.with_switch-set.result c.loop-bit.invariant c.switch.ensures c.with_switch-set.ensures
