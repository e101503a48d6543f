-- The lines so far and those that are to come are the whole.
use Rattle.std.proofs.Common.{◌≡◌, ◌++◌, drop}
use Rattle.rv_findings.specs.OwnRules.{lines_where}
use Rattle.rv_findings.proofs.finding.lines_where.Given as goal

abbrev pub invariant-own : goal.invariant-own
invariant-own l = l.lines.items ++ lines_where l.asked (drop l.rule-index l.own) ≡ lines_where l.asked l.own
