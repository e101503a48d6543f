use Rattle.std.proofs.Common.{length}
use Rattle.rv_reference.proofs.switches.+switch.Given as goal

abbrev pub decreases-switch : goal.decreases-switch
decreases-switch l = length l.history.now
