-- The tests that are left have the first one that holds on no line.
use Rattle.std.proofs.Common.{◌≡◌, drop}
use Rattle.rv_findings.specs.Findings.{never, never_holds}
use Rattle.rv_facts.specs.Pairs.{pairs_from}
use Rattle.rv_findings.proofs.rule_findings.put_never.Given as goal

abbrev pub invariant-tests : goal.invariant-tests
invariant-tests l = record { kept : l.out ≡ l.initial.out; left : pairs_from never_holds l.place (drop l.place l.tests) (drop l.place l.holds) ≡ never l.tests l.holds }
