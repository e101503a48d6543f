-- The pairs so far and those that are to come are the whole.
use Rattle.std.proofs.Common.{◌≡◌, ◌++◌, drop}
use Rattle.rv_facts.specs.Pairs.{of_pairs, pairs_from}
use Rattle.rv_facts.specs.RuleFacts.{own_rule_facts}
use Rattle.rv_facts.proofs.rule_facts.put_rules.Given as goal

abbrev pub invariant-rules : goal.invariant-rules
invariant-rules l = l.out ++ pairs_from (own_rule_facts l.name l.lines l.monitor) l.place (drop l.place l.rules) (drop l.place l.counts) ≡ l.initial.out ++ of_pairs (own_rule_facts l.name l.lines l.monitor) l.rules l.counts
