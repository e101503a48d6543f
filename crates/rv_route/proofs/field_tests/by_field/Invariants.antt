use Rattle.std.proofs.Common.{take}
use Rattle.rv_route.specs.FieldTests.{MeanTests}
use Rattle.rv_route.proofs.field_tests.by_field.Given as goal

abbrev pub invariant-loop-test : goal.invariant-loop-test
invariant-loop-test l = MeanTests l.list.items (take l.test l.places) (take l.test l.tests)
