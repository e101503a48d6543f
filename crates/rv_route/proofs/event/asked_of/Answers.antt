use Rattle.std.proofs.Common.{◌≡◌, ap, ◌∙◌, subst, map, Some}
use Rattle.std.specs.Prelude.{IfSome, option_map}
use Rattle.rv_route.specs.FieldTests.{MeanTests}
use Rattle.rv_bind.specs.RuleValues.{OnValue}
use Rattle.rv_route.specs.Events.{tested_fields}
use Rattle.rv_route.proofs.EventLemmas.{places-grown, extends-then}
use Rattle.rv_route.proofs.event.asked_of.Goals as goal

pub returns-clause-fields : goal.returns-clause-fields
returns-clause-fields c =
    let mid = c.test_places.new.names in
    let new = c.by_place.new.names in
    let tests : tested_fields c.as_slice.result.now ≡ tested_fields c.args.rule.now.tests = ap tested_fields (c.as_slice.ensures.value ∙ ap (λ (r : OnValue). r.tests) c.rule.view_is) in
    let own : c.as_slice-2.result.now ≡ c.args.rule.now.tests = c.as_slice-2.ensures.value ∙ ap (λ (r : OnValue). r.tests) c.rule.view_is in
    record {
      tests = places-grown mid new c.in_ok-by.ensures.grown c.in_ok-tests.tests.items (tested_fields c.args.rule.now.tests) (c.in_ok-tests.ensures.places ∙ ap (map Some) tests);
      by_field = subst (λ ts. IfSome c.in_ok-by_field.by_field (λ list. MeanTests list.items c.in_ok-tests.tests.items ts)) own (
          subst (λ ps. IfSome c.in_ok-by_field.by_field (λ list. MeanTests list.items ps c.as_slice-2.result.now)) c.as_slice-3.ensures.value c.in_ok-by_field.ensures
          );
      by = c.in_ok-by.ensures.place ∙ ap (λ (r : OnValue). option_map Some r.by) c.rule.view_is;
    }

pub returns-clause-grown : goal.returns-clause-grown
returns-clause-grown c = extends-then c.args.names.now c.test_places.new.names c.by_place.new.names c.in_ok-tests.ensures.grown c.in_ok-by.ensures.grown
