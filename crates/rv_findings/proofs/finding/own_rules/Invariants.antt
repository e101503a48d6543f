-- The pairs so far and those that are to come are the whole.
use Rattle.std.proofs.Common.{◌≡◌, ◌++◌, drop}
use Rattle.rv_facts.specs.Pairs.{of_pairs, pairs_from}
use Rattle.rv_findings.specs.OwnRules.{own_rule}
use Rattle.rv_findings.proofs.finding.own_rules.Given as goal

abbrev pub invariant-rules : goal.invariant-rules
invariant-rules l = l.own.items ++ pairs_from (own_rule l.monitor) l.place (drop l.place l.rules) (drop l.place l.lines) ≡ of_pairs (own_rule l.monitor) l.rules l.lines
