use Rattle.std.proofs.Common.{◌≡◌, false, map, take}
use Rattle.rv_matches.specs.inner.RuleSteps.{field_name}
use Rattle.rv_matches.specs.Words.{is_kept_among}
use Rattle.rv_matches.proofs.rule_lines.has_field.Given as goal

abbrev pub invariant-loop-field : goal.invariant-loop-field
invariant-loop-field l = is_kept_among (map field_name (take l.field-index l.fields)) l.name ≡ false
