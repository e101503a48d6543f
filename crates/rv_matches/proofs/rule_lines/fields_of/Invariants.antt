use Rattle.std.proofs.Common.{◌≡◌, [], map, take}
use Rattle.std.specs.Prelude.{All}
use Rattle.rv_matches.specs.RuleLines.{HasTest, field_counts, field_told, kept_fields}
use Rattle.rv_matches.proofs.rule_lines.fields_of.Given as goal

abbrev pub invariant-loop-test : goal.invariant-loop-test
invariant-loop-test l = record {
  fields : map field_told l.fields.items ≡ map (field_counts []) (kept_fields (take l.test l.tests));
  tests : All (HasTest l.tests) l.fields.items;
}
