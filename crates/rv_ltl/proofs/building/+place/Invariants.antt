use Rattle.std.proofs.Common.{length}
use Rattle.rv_ltl.proofs.building.+place.Given as goal

abbrev pub decreases-place : goal.decreases-place
decreases-place l = length l.atoms.now
