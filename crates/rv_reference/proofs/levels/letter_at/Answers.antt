use Rattle.std.proofs.Common.{reverse, ◌∷◌, ◌||◌}
use Rattle.rv_model.specs.Numbers.{has_bit}
use Rattle.rv_model.specs.Phases.{level}
use Rattle.rv_reference.proofs.NumberLemmas.{number-none, number-below, number-step}
use Rattle.rv_reference.proofs.levels.letter_at.Goals as goal

pub loop-atom-init : goal.loop-atom-init
loop-atom-init c = number-none (λ atom. level c.args.start (c.args.entry ∷ reverse c.args.before.now) c.args.slot atom || has_bit c.in-Ltl.pulse atom)

pub with_bit-set-requires-clause-above : goal.with_bit-set-requires-clause-above
with_bit-set-requires-clause-above c = number-below (λ atom. level c.args.start (c.args.entry ∷ reverse c.args.before.now) c.args.slot atom || has_bit c.in-Ltl.pulse atom) c.loop-atom.atom c.loop-atom.set c.loop-atom.invariant

pub loop-atom-preserved : goal.loop-atom-preserved
loop-atom-preserved c = number-step (λ atom. level c.args.start (c.args.entry ∷ reverse c.args.before.now) c.args.slot atom || has_bit c.in-Ltl.pulse atom) c.loop-atom.atom c.loop-atom.set c.holds.result c.with_bit-set.result c.loop-atom.invariant c.holds.ensures c.with_bit-set.ensures
