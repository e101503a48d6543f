use Rattle.std.proofs.Common.{◌≡◌, ◌<◌, ◌++◌, ◌∷◌, [], length, get_or, map, rules, sym, ap, ◌∙◌, arith}
use Rattle.std.proofs.lemmas.List.{length-map, length-set}
use Rattle.rv_trace.specs.Fields.{field_of}
use Rattle.rv_trace.specs.FoundFields.{found_at}
use Rattle.rv_bind.specs.RuleValues.{OnValue}
use Rattle.rv_route.specs.Asking.{holds, value_found}
use Rattle.rv_route.specs.Events.{tested_field, tested_fields}
use Rattle.rv_route.proofs.AskingLemmas.{test-holds}
use Rattle.rv_matches.specs.RuleLines.{held}
use Rattle.rv_matches.proofs.MixedLemmas.{mixed_all, mixed_none}
use Rattle.rv_matches.proofs.RuleTestLemmas.{at_any, tests_more}
use Rattle.rv_matches.proofs.rule_lines.add_tests.Goals as goal

pub loop-test-init : goal.loop-test-init
loop-test-init c = record {
  many = search rules;
  counts = λ lines line is was. was ∙ sym (mixed_none (held lines) (held (lines ++ line ∷ [])) c.args.rule.now.tests);
}

pub loop-test-preserved : goal.loop-test-preserved
loop-test-preserved c =
    let fields = c.args.fields.now in
    let tests = c.args.rule.now.tests in
    let place = c.loop-test.test in
    let test = c.index-in-loop-test-2.result.now in
    let ended : c.len-test-end.result ≡ length c.args.holds.now.items = search rules in
    let inside : place < length tests = omega (arith, c.requires.few) in
    let at : test ≡ get_or tests place test = c.index-in-loop-test-2.ensures ∙ ap (λ (r : OnValue). get_or r.tests place test) c.rule.view_is in
    let places = c.args.asked.now.tests.items in
    let many : length (map (found_at c.args.found.now) places) ≡ length (map (field_of fields) (tested_fields tests)) = ap length c.requires.found.tests in
    let placed : place < length places = omega (arith, length-map places (found_at c.args.found.now), length-map (tested_fields tests) (field_of fields), length-map tests tested_field) in
    let value = c.value_at-value.ensures ∙ ap (value_found fields c.args.found.now) (c.index.ensures ∙ at_any places place c.index.result.now 0 placed) in
    let here : holds fields test ≡ c.test_holds.result = test-holds fields c.args.found.now c.args.asked.now.tests.items tests place test _ c.test_holds.result c.requires.found.tests inside at value c.test_holds.ensures in
    record {
      many = length-set c.loop-test.holds.items place c.in_ok-holds.field-0 ∙ c.loop-test.invariant.many;
      counts = λ lines line is was.
          tests_more fields lines line tests place test c.loop-test.holds.items c.index-in-loop-test.result.now c.in_ok-holds.field-0 c.test_holds.result
          is (c.loop-test.invariant.counts lines line is was) inside at c.index-in-loop-test.ensures c.in_ok-holds.ensures here;
    }

pub returns-clause-counts : goal.returns-clause-counts
returns-clause-counts c = λ lines line is was.
    let ended : c.len-test-end.result ≡ length c.args.holds.now.items = search rules in
    let many : length c.args.holds.now.items ≡ length c.args.rule.now.tests = ap length was ∙ length-map c.args.rule.now.tests (held lines) in
    c.loop-test.invariant.counts lines line is was ∙ mixed_all (held lines) (held (lines ++ line ∷ [])) c.args.rule.now.tests c.loop-test.test (omega arith)
