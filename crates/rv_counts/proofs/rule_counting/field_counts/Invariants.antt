-- The fields so far are told.
use Rattle.std.proofs.Common.{◌≡◌, map, take}
use Rattle.rv_matches.specs.RuleLines.{field_told}
use Rattle.rv_counts.specs.RuleTold.{field_counted}
use Rattle.rv_counts.proofs.rule_counting.field_counts.Given as goal

abbrev pub invariant-loop-field : goal.invariant-loop-field
invariant-loop-field l = map field_counted l.list.items ≡ map field_told (take l.field-index l.fields)
