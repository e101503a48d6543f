use Rattle.std.proofs.Common.{◌≡◌, map, take}
use Rattle.rv_control.specs.Opening.{watched}
use Rattle.rv_control.proofs.opening.monitors.Given as goal

abbrev pub invariant-loop-monitor : goal.invariant-loop-monitor
invariant-loop-monitor l = l.seen.items ≡ map watched (take l.monitor-index l.monitors)
