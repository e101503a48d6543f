use Rattle.std.proofs.Common.{◌≡◌, map, take}
use Rattle.rv_tool.proofs.input.starts.Given as goal

abbrev pub invariant-loop-monitor : goal.invariant-loop-monitor
invariant-loop-monitor l = l.starts.items ≡ map (λ m. m.starting) (take l.monitor-index l.monitors)
