use Rattle.std.proofs.Common.{◌≡◌, map, take}
use Rattle.rv_tool.proofs.input.scopes.Given as goal

abbrev pub invariant-loop-monitor : goal.invariant-loop-monitor
invariant-loop-monitor l = l.scopes.items ≡ map (λ m. m.scope) (take l.monitor-index l.monitors)
