use Rattle.std.proofs.Common.{◌≡◌, take, true}
use Rattle.std.specs.List.{list_all}
use Rattle.rv_route.specs.Asking.{holds}
use Rattle.rv_route.proofs.asking.all_hold.Given as goal

abbrev pub invariant-loop-test : goal.invariant-loop-test
invariant-loop-test l = list_all (holds l.fields) (take l.test l.tests) ≡ true
