-- The numbers so far and those that are to come are the whole.
use Rattle.std.proofs.Common.{◌≡◌, ◌++◌, drop, map}
use Rattle.rv_findings.proofs.whole.all_started.Given as goal

abbrev pub invariant-monitors : goal.invariant-monitors
invariant-monitors l = l.numbers.items ++ map (λ c. c.instances_started) (drop l.monitor-index l.monitors) ≡ map (λ c. c.instances_started) l.monitors
