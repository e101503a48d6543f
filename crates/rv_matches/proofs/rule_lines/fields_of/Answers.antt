use Rattle.std.proofs.Common.{◌≡◌, ◌+◌, ◌<◌, ℕ, List, [], length, map, take, rules, Some, sym, ap, ◌∙◌}
use Rattle.std.specs.Prelude.{option_map, slice_get}
use Rattle.std.proofs.lemmas.List.Sums.{fold_push}
use Rattle.std.proofs.lemmas.Option.{slice_get-get_or, slice_get-map}
use Rattle.rv_route.specs.Events.{tested_field, tested_fields}
use Rattle.rv_route.proofs.EventLemmas.{names-more}
use Rattle.rv_matches.specs.declared.rule_lines.TheConstants.{MOST_FIELDS}
use Rattle.rv_matches.specs.RuleLines.{field_counts}
use Rattle.rv_matches.specs.Words.{distinct, with_word}
use Rattle.rv_matches.proofs.rule_lines.fields_of.Goals as goal

pub loop-test-preserved : goal.loop-test-preserved
loop-test-preserved c =
    let tests = c.args.tests.now in
    let i = c.loop-test.test in
    let test = c.index-tests-test.result in
    let inside : i < length tests = search rules in
    let name = c.bytes.result.now in
    let named : name ≡ tested_field test = c.bytes.ensures ∙ c.tested_field.ensures in
    let before = tested_fields (take i tests) in
    let more : with_word (distinct before) name ≡ distinct (tested_fields (take (i + 1) tests)) = sym (ap distinct (names-more tests i test name inside c.index-tests-test.is named) ∙ fold_push with_word [] before name) in
    let there : slice_get (tested_fields tests) i ≡ Some name = slice_get-map tested_field tests i ∙ ap (option_map tested_field) (slice_get-get_or tests i test inside ∙ ap Some (sym c.index-tests-test.is)) ∙ ap Some (sym named) in
    record {
      fields = c.in_ok-keep_field.ensures.kept (distinct before) c.loop-test.invariant.fields ∙ ap (λ (ns : List (List ℕ)). map (field_counts []) (take MOST_FIELDS ns)) more;
      tests = c.in_ok-keep_field.ensures.tests tests there c.loop-test.invariant.tests;
    }
