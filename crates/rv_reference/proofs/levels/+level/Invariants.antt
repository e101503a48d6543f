use Rattle.std.proofs.Common.{length}
use Rattle.rv_reference.proofs.levels.+level.Given as goal

abbrev pub decreases-level : goal.decreases-level
decreases-level l = length l.history.now
