use Rattle.std.proofs.Common.{length}
use Rattle.rv_reference.proofs.works.+names_each.Given as goal

abbrev pub decreases-names_each : goal.decreases-names_each
decreases-names_each l = length l.turns.now
