use Rattle.std.proofs.Common.{◌≡◌, map, take}
use Rattle.rv_control.proofs.opening.reactors.Given as goal

abbrev pub invariant-loop-monitor : goal.invariant-loop-monitor
invariant-loop-monitor l = l.reactors.items ≡ map (λ m. m.reactor) (take l.monitor-index l.monitors)
