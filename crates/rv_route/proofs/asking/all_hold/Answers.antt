use Rattle.std.proofs.Common.{◌≡◌, true, false, sym, ◌∙◌, arith, rules}
use Rattle.rv_route.specs.Asking.{holds}
use Rattle.rv_route.proofs.AskingLemmas.{test-holds, all-more, all-never}
use Rattle.rv_route.proofs.asking.all_hold.Goals as goal

pub returns-then-not-test_holds : goal.returns-then-not-test_holds
returns-then-not-test_holds c =
    let fields = c.args.fields.now in
    let no : c.test_holds.result ≡ false = search rules in
    let here : holds fields c.index-tests-test.result ≡ c.test_holds.result = test-holds fields c.args.found.now c.args.places.now c.args.tests.now c.loop-test.test c.index-tests-test.result _ c.test_holds.result c.requires.found (omega arith) c.index-tests-test.is c.value_at-value.ensures c.test_holds.ensures in
    sym (all-never (holds fields) c.args.tests.now c.loop-test.test c.index-tests-test.result (omega arith) c.index-tests-test.is (here ∙ no))

pub loop-test-preserved : goal.loop-test-preserved
loop-test-preserved c =
    let fields = c.args.fields.now in
    let yes : c.test_holds.result ≡ true = search rules in
    let here : holds fields c.index-tests-test.result ≡ c.test_holds.result = test-holds fields c.args.found.now c.args.places.now c.args.tests.now c.loop-test.test c.index-tests-test.result _ c.test_holds.result c.requires.found (omega arith) c.index-tests-test.is c.value_at-value.ensures c.test_holds.ensures in
    all-more (holds fields) c.args.tests.now c.loop-test.test c.index-tests-test.result (omega arith) c.index-tests-test.is c.loop-test.invariant (here ∙ yes)
