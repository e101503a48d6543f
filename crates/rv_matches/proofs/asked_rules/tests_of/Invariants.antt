use Rattle.std.proofs.Common.{◌≡◌, take}
use Rattle.rv_matches.proofs.asked_rules.tests_of.Given as goal

abbrev pub invariant-loop-test : goal.invariant-loop-test
invariant-loop-test l = l.list.items ≡ take l.test-index l.tests
