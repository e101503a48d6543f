use Rattle.std.proofs.Common.{◌≡◌, List, [], length, map, rules, refl, ap, ◌∙◌}
use Rattle.rv_bind.specs.RuleValues.{OnValue}
use Rattle.rv_bind.specs.declared.bindings.Test.{Test}
use Rattle.rv_matches.specs.RuleLines.{field_counts, kept_fields}
use Rattle.rv_matches.proofs.CountedRuleLemmas.{none_held}
use Rattle.rv_matches.proofs.rule_lines.no_lines.Goals as goal

pub returns-clause-none : goal.returns-clause-none
returns-clause-none c =
    let tests = c.args.rule.now.tests in
    let whole = ap (λ (r : OnValue). r.tests) c.rule.view_is in
    let many : c.len.result ≡ length c.rule.inside.tests.items = search rules in
    record {
      lines = refl;
      fires = refl;
      holds = none_held tests c.in_ok-vec.field-0.items c.len.result (many ∙ ap length whole) (c.in_ok-vec.ensures.items_if_clones_equal (λ y e. e));
      fields = c.in_ok-fields_of.ensures.fields ∙ ap (λ (ts : List Test). map (field_counts []) (kept_fields ts)) (c.as_slice.ensures.value ∙ whole);
    }
