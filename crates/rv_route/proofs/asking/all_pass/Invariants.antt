use Rattle.std.proofs.Common.{◌≡◌, take, true}
use Rattle.rv_route.specs.FieldTests.{all_pass}
use Rattle.rv_route.specs.Asking.{value_found}
use Rattle.rv_route.proofs.asking.all_pass.Given as goal

abbrev pub invariant-loop-test : goal.invariant-loop-test
invariant-loop-test l = all_pass (value_found l.fields l.found) (take l.test-index l.tests) ≡ true
