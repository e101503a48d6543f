use Rattle.std.proofs.Common.{length}
use Rattle.rv_reference.proofs.plan.Plan.+played.Given as goal

abbrev pub decreases-played : goal.decreases-played
decreases-played l = length l.history.now
