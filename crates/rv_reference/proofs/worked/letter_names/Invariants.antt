use Rattle.std.proofs.Common.{◌≡◌}
use Rattle.rv_reference.specs.Worked.{letter_names}
use Rattle.rv_reference.proofs.worked.letter_names.Given as goal

abbrev pub invariant-loop-k : goal.invariant-loop-k
invariant-loop-k l = l.names ≡ letter_names l.k
