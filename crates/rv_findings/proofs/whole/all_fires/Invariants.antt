-- The numbers so far and those that are to come are the whole.
use Rattle.std.proofs.Common.{◌≡◌, ◌++◌, drop, map}
use Rattle.rv_findings.proofs.whole.all_fires.Given as goal

abbrev pub invariant-rules : goal.invariant-rules
invariant-rules l = l.numbers.items ++ map (λ r. r.fires) (drop l.rule-index l.rules) ≡ map (λ r. r.fires) l.rules
