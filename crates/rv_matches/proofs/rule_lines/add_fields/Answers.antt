use Rattle.std.proofs.Common.{◌≡◌, ◌<◌, ◌++◌, ◌∷◌, [], length, get_or, Some, rules, sym, ap, ◌∙◌, subst, arith}
use Rattle.std.specs.Prelude.{slice_get}
use Rattle.std.specs.Vec.{vec_len}
use Rattle.std.proofs.lemmas.List.{length-map, length-set}
use Rattle.std.proofs.lemmas.List.Elements.{All-set}
use Rattle.rv_route.specs.Events.{tested_fields}
use Rattle.rv_matches.specs.declared.rule_lines.FieldLines.{FieldLines}
use Rattle.rv_matches.specs.RuleLines.{HasTest, field_counts, field_told}
use Rattle.rv_matches.proofs.MixedLemmas.{mixed_all, mixed_none}
use Rattle.rv_matches.proofs.RuleTestLemmas.{fields_more, at_any, test_within, value_there}
use Rattle.rv_matches.proofs.rule_lines.add_fields.Goals as goal

pub loop-place-init : goal.loop-place-init
loop-place-init c = record {
  many = search rules;
  tests = c.requires.tests;
  counts = λ lines line names is was. was ∙ sym (mixed_none (field_counts lines) (field_counts (lines ++ line ∷ [])) names);
}

pub index-requires-in-loop-place : goal.index-requires-in-loop-place
index-requires-in-loop-place c =
    let f = c.index.result.now in
    let ended : c.len-place-end.result ≡ length c.args.list.now.items = search rules in
    let inside : c.loop-place.place < length c.loop-place.list.items = omega (arith, c.loop-place.invariant.many) in
    let has : HasTest c.args.rule.now.tests f = subst (HasTest c.args.rule.now.tests) (sym c.index.ensures) (c.loop-place.invariant.tests c.loop-place.place f inside) in
    let within : f.test < length c.args.asked.now.tests.items = test_within c.args.fields.now c.args.found.now c.args.asked.now.tests.items c.args.rule.now.tests c.requires.found.tests f has in
    let many : vec_len c.args.asked.now.tests ≡ length c.args.asked.now.tests.items = search rules in
    omega arith

pub loop-place-preserved : goal.loop-place-preserved
loop-place-preserved c =
    let fields = c.args.fields.now in
    let tests = c.args.rule.now.tests in
    let places = c.args.asked.now.tests.items in
    let list = c.loop-place.list.items in
    let place = c.loop-place.place in
    let old = c.index_mut.result.now in
    let new = c.add_value.new.count in
    let ended : c.len-place-end.result ≡ length c.args.list.now.items = search rules in
    let inside : place < length list = omega (arith, c.loop-place.invariant.many) in
    let has : HasTest tests old = subst (HasTest tests) (sym c.index_mut.ensures.value) (c.loop-place.invariant.tests place old inside) in
    let kept = c.add_value.ensures.kept in
    let new_has : HasTest tests new = record {
      field = ap (slice_get (tested_fields tests)) kept.test ∙ has.field ∙ ap Some (sym kept.field);
      most = kept.most ∙ has.most;
    } in
    let same : c.index.result.now ≡ old = c.index.ensures ∙ at_any list place c.index.result.now old inside ∙ sym c.index_mut.ensures.value in
    let at : c.index-in-loop-place.result.now ≡ get_or places old.test c.index-in-loop-place.result.now = c.index-in-loop-place.ensures ∙ ap (λ (f : FieldLines). get_or places f.test c.index-in-loop-place.result.now) same in
    record {
      many = length-set list place new ∙ c.loop-place.invariant.many;
      tests = All-set (HasTest tests) list place new new_has c.loop-place.invariant.tests;
      counts = λ lines line names is was.
          fields_more lines line names list place old new (c.loop-place.invariant.counts lines line names is was) inside c.index_mut.ensures.value
          (c.in_ok-add_value.ensures.counts lines line (value_there fields c.args.found.now places tests c.requires.found.tests old has c.index-in-loop-place.result.now line at is ∙ sym c.value_at.ensures));
    }

pub returns-clause-counts : goal.returns-clause-counts
returns-clause-counts c = λ lines line names is was.
    let ended : c.len-place-end.result ≡ length c.args.list.now.items = search rules in
    let many : length c.args.list.now.items ≡ length names = sym (length-map c.args.list.now.items field_told) ∙ ap length was ∙ length-map names (field_counts lines) in
    c.loop-place.invariant.counts lines line names is was ∙ mixed_all (field_counts lines) (field_counts (lines ++ line ∷ [])) names c.loop-place.place (omega arith)
