-- The last of what is left is the last of all.
use Rattle.std.proofs.Common.{◌≡◌, drop, fold}
use Rattle.rv_findings.specs.OwnRules.{final_line}
use Rattle.rv_findings.proofs.finding.last_line.Given as goal

abbrev pub invariant-lines : goal.invariant-lines
invariant-lines l = fold (λ before line. line) l.last (drop l.line-index l.lines) ≡ final_line l.lines
