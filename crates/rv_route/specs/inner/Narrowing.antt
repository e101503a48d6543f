-- One test more of a field, and of a rule.
use Rattle.std.specs.Prelude.{◌≡◌, ℕ, Bool, ◌&&◌, List, Option}
use Rattle.rv_bind.specs.declared.bindings.Test.{Test}
use Rattle.rv_route.specs.declared.field_tests.FieldTest.{FieldTest}
use Rattle.rv_route.specs.FieldTests.{passes, all_pass, test_holds}

-- what passes now passed before, and passes this too
pub record IsNarrowed (old : FieldTest) (holds : Option (List ℕ) → Bool) (new : FieldTest) : Type 0 where
  pub place : new.place ≡ old.place
  pub passes : (found : Option (List ℕ)) → passes new found ≡ (passes old found && holds found)

-- all pass now where they did before and this test of the field at a place holds
abbrev pub HasTestMore : List FieldTest → ℕ → Test → List FieldTest → Type 0
HasTestMore old place test new = (values : ℕ → Option (List ℕ)) → all_pass values new ≡ (all_pass values old && test_holds test (values place))
