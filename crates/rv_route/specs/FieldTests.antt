-- The tests of a rule field by field, and what they say of the values of the fields.
use Rattle.std.specs.Prelude.{◌≡◌, ℕ, Bool, true, false, not, ◌&&◌, List, [], ◌∷◌, Option, Some, None, bytes_eq, Vec}
use Rattle.std.specs.List.{list_all}
use Rattle.std.specs.Ordering.{nat_cmp}
use Rattle.std.specs.Cmp.Lexicographic.{slice_cmp}
use Rattle.std.specs.BTreeSet.{BTreeSet, contains_by}
use Rattle.std.specs.declared.alloc.Global.{Global}
use Rattle.rv_bind.specs.declared.bindings.Test.{Test}
use Rattle.rv_bind.specs.declared.bindings.Test.TheVariants.{Is, IsNot}
use Rattle.rv_route.specs.declared.field_tests.FieldTest.{FieldTest}
use Rattle.rv_route.specs.Asking.{has_value, differs}

-- whether a test holds of what its field has
abbrev pub test_holds : Test → Option (List ℕ) → Bool
test_holds (Is field wanted) found = has_value wanted found
test_holds (IsNot field wanted) found = differs wanted found

-- whether all tests hold, whose fields stand at these places, where the fields have these values
abbrev pub tests_hold : (ℕ → Option (List ℕ)) → List ℕ → List Test → Bool
tests_hold values places [] = true
tests_hold values [] (test ∷ tests) = true
tests_hold values (place ∷ places) (test ∷ tests) = test_holds test (values place) && tests_hold values places tests

-- whether the value is among those that are forbidden
abbrev pub is_forbidden : BTreeSet (Vec ℕ Global) → List ℕ → Bool
is_forbidden forbidden found = contains_by (λ key. slice_cmp nat_cmp found key.items) forbidden

-- whether the value is the one that is wanted, if one is
abbrev pub is_wanted : Option (List ℕ) → List ℕ → Bool
is_wanted None found = true
is_wanted (Some wanted) found = bytes_eq found wanted

-- whether what a field has passes all tests of the field
abbrev pub passes : FieldTest → Option (List ℕ) → Bool
passes test None = false
passes test (Some found) = is_wanted test.wanted found && not (is_forbidden test.forbidden found)

-- whether the values of all fields pass
abbrev pub all_pass : (ℕ → Option (List ℕ)) → List FieldTest → Bool
all_pass values list = list_all (λ test. passes test (values test.place)) list

-- field by field they hold of a line exactly where all tests of the rule do, whatever the line's fields have
abbrev pub MeanTests : List FieldTest → List ℕ → List Test → Type 0
MeanTests list places tests = (values : ℕ → Option (List ℕ)) → all_pass values list ≡ tests_hold values places tests
