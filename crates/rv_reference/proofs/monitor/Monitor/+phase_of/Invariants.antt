use Rattle.std.proofs.Common.{length}
use Rattle.rv_reference.proofs.monitor.Monitor.+phase_of.Given as goal

abbrev pub decreases-phase_of : goal.decreases-phase_of
decreases-phase_of l = length l.history.now
