use Rattle.std.proofs.Common.{length}
use Rattle.rv_ltl.proofs.atoms.+stands.Given as goal

abbrev pub decreases-stands : goal.decreases-stands
decreases-stands l = length l.numbers.now
