use Rattle.std.proofs.Common.{length, ◌+◌}
use Rattle.rv_reference.proofs.satisfaction.+tested.Given as goal

abbrev pub decreases-tested : goal.decreases-tested
decreases-tested l = goal.size-tested l + length l.letters.now
