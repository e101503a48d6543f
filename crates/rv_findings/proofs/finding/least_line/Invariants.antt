-- The least of what is left is the least of all.
use Rattle.std.proofs.Common.{◌≡◌, drop, fold, min}
use Rattle.rv_findings.specs.OwnRules.{least_line}
use Rattle.rv_findings.proofs.finding.least_line.Given as goal

abbrev pub invariant-lines : goal.invariant-lines
invariant-lines l = fold (λ least other. min least other) l.least (drop l.other-index l.lines) ≡ least_line l.line l.lines
