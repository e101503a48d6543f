use Rattle.std.proofs.Common.{[], take}
use Rattle.std.specs.List.{AllZip}
use Rattle.rv_matches.specs.RuleLines.{IsByTests, IsRuleLine, rule_counts}
use Rattle.rv_matches.proofs.rule_lines.RuleLines.new.Given as goal

abbrev pub invariant-loop-rule : goal.invariant-loop-rule
invariant-loop-rule l = record {
  none : AllZip (λ rule r. IsRuleLine (rule_counts [] rule) r) (take l.rule-index l.rule-items) l.counts.items;
  places : AllZip IsByTests (take l.rule-index l.rule-items) l.counts.items;
}
