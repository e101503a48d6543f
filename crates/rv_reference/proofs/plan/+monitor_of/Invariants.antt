use Rattle.std.proofs.Common.{length}
use Rattle.rv_reference.proofs.plan.+monitor_of.Given as goal

abbrev pub decreases-monitor_of : goal.decreases-monitor_of
decreases-monitor_of l = length l.monitors.now
