use Rattle.std.proofs.Common.{◌≡◌, reverse}
use Rattle.rv_model.specs.Numbers.{number_of}
use Rattle.rv_model.specs.Phases.{level}
use Rattle.rv_reference.proofs.levels.levels_of.Given as goal

abbrev pub invariant-loop-atom : goal.invariant-loop-atom
invariant-loop-atom l = l.set ≡ number_of (level l.start (reverse l.history) l.slot) l.atom
