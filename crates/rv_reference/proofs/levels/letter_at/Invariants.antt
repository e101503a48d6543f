use Rattle.std.proofs.Common.{◌≡◌, ◌||◌, ◌∷◌, reverse}
use Rattle.rv_model.specs.Numbers.{has_bit, number_of}
use Rattle.rv_model.specs.Phases.{level}
use Rattle.rv_reference.proofs.levels.letter_at.Given as goal

abbrev pub invariant-loop-atom : goal.invariant-loop-atom
invariant-loop-atom l = l.set ≡ number_of (λ atom. level l.start (l.entry ∷ reverse l.before) l.slot atom || has_bit l.pulse atom) l.atom
