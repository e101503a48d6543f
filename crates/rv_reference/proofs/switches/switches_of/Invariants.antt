use Rattle.std.proofs.Common.{◌≡◌, reverse}
use Rattle.rv_model.specs.Numbers.{number_of}
use Rattle.rv_model.specs.SharedWords.{switch}
use Rattle.rv_reference.proofs.switches.switches_of.Given as goal

abbrev pub invariant-loop-bit : goal.invariant-loop-bit
invariant-loop-bit l = l.set ≡ number_of (switch l.opening (reverse l.history)) l.bit
