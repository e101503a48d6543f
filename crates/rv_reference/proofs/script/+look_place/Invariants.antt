use Rattle.std.proofs.Common.{length}
use Rattle.rv_reference.proofs.script.+look_place.Given as goal

abbrev pub decreases-look_place : goal.decreases-look_place
decreases-look_place l = length l.script.now
