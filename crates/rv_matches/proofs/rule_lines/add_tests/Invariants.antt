use Rattle.std.proofs.Common.{◌≡◌, List, [], ◌∷◌, ◌++◌, length, map}
use Rattle.rv_matches.specs.LineEvents.{LineEvent}
use Rattle.rv_matches.specs.RuleLines.{held}
use Rattle.rv_matches.proofs.MixedLemmas.{mixed}
use Rattle.rv_matches.proofs.rule_lines.add_tests.Given as goal

abbrev pub invariant-loop-test : goal.invariant-loop-test
invariant-loop-test l = record {
  many : length l.holds.items ≡ length l.fn.holds.items;
  counts : (lines : List LineEvent) (line : LineEvent) → line.fields ≡ l.fields → l.fn.holds.items ≡ map (held lines) l.rule.tests → l.holds.items ≡ mixed (held lines) (held (lines ++ line ∷ [])) l.rule.tests l.test;
}
