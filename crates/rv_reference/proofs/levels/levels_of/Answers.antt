use Rattle.std.proofs.Common.{reverse}
use Rattle.rv_model.specs.Phases.{level}
use Rattle.rv_reference.proofs.NumberLemmas.{number-none, number-below, number-step}
use Rattle.rv_reference.proofs.levels.levels_of.Goals as goal

pub loop-atom-init : goal.loop-atom-init
loop-atom-init c = number-none (level c.args.start (reverse c.args.history.now) c.args.slot)

pub with_bit-set-requires-clause-above : goal.with_bit-set-requires-clause-above
with_bit-set-requires-clause-above c = number-below (level c.args.start (reverse c.args.history.now) c.args.slot) c.loop-atom.atom c.loop-atom.set c.loop-atom.invariant

pub loop-atom-preserved : goal.loop-atom-preserved
loop-atom-preserved c = number-step (level c.args.start (reverse c.args.history.now) c.args.slot) c.loop-atom.atom c.loop-atom.set c.level.result c.with_bit-set.result c.loop-atom.invariant c.level.ensures c.with_bit-set.ensures
