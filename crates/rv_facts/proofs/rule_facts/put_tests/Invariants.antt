-- The pairs so far and those that are to come are the whole.
use Rattle.std.proofs.Common.{◌≡◌, ◌++◌, drop}
use Rattle.rv_facts.specs.Pairs.{of_pairs, pairs_from}
use Rattle.rv_facts.specs.RuleFacts.{test_fact}
use Rattle.rv_facts.proofs.rule_facts.put_tests.Given as goal

abbrev pub invariant-tests : goal.invariant-tests
invariant-tests l = l.out ++ pairs_from (test_fact l.front l.lines) l.place (drop l.place l.tests) (drop l.place l.holds) ≡ l.initial.out ++ of_pairs (test_fact l.front l.lines) l.tests l.holds
