use Rattle.std.proofs.Common.{◌+◌, ◌&&◌, Bool, get_or, refl, sym, ap, ◌∙◌, arith}
use Rattle.rv_route.specs.FieldTests.{test_holds}
use Rattle.rv_route.proofs.FieldTestLemmas.{hold-more}
use Rattle.rv_route.proofs.field_tests.by_field.Goals as goal

pub loop-test-preserved : goal.loop-test-preserved
loop-test-preserved c values =
    let i = c.loop-test.test in
    c.in_ok-add.ensures values ∙ ap (λ (b : Bool). b && test_holds c.index-tests-test.result (values (get_or c.args.places.now i 0))) (c.loop-test.invariant values)
    ∙ sym (hold-more values c.args.places.now c.args.tests.now i (i + 1) c.index-tests-test.result refl (omega arith) c.requires c.index-tests-test.is)
