use Rattle.std.proofs.Common.{◌≡◌, map, take}
use Rattle.rv_matches.specs.RuleLines.{without_by}
use Rattle.rv_matches.proofs.asked_rules.asked_rules.Given as goal

abbrev pub invariant-loop-rule : goal.invariant-loop-rule
invariant-loop-rule l = l.list.items ≡ map without_by (take l.rule-index l.rules)
