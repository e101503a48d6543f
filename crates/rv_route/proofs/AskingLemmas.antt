-- Tests that hold of what was looked up.
use Rattle.std.proofs.Common.{◌≡◌, ℕ, zero, suc, ◌+◌, ◌<◌, ◌&&◌, Bool, true, false, List, [], ◌∷◌, length, get_or, take, map, Option, Some, None, refl, sym, ap, ap₂, ◌∙◌, arith}
use Rattle.std.specs.Prelude.{option_map}
use Rattle.std.specs.List.{list_all}
use Rattle.std.proofs.lemmas.List.Folds.{list_all_more}
use Rattle.rv_trace.specs.Fields.{field_of}
use Rattle.rv_trace.specs.declared.line.Span.{Span}
use Rattle.rv_trace.specs.declared.line.TraceLine.{TraceLine}
use Rattle.rv_bind.specs.declared.bindings.Test.{Test}
use Rattle.rv_bind.specs.declared.bindings.Test.TheVariants.{Is, IsNot}
use Rattle.rv_route.specs.Asking.{text_at, holds, pid_of, value_found}
use Rattle.rv_route.specs.inner.Asking.{pid_found}
use Rattle.rv_route.specs.FieldTests.{test_holds, tests_hold}
use Rattle.rv_route.specs.Events.{tested_field, tested_fields}
use Rattle.rv_trace.specs.FoundFields.{found_at}

-- what was looked up for a test is what its field has
test-found : (fields : List ℕ) (found : List (Option Span)) (places : List ℕ) (tests : List Test) (i : ℕ) (test : Test) → map (found_at found) places ≡ map (field_of fields) (tested_fields tests) → i < length tests → test ≡ get_or tests i test
    → found_at found (get_or places i 0) ≡ field_of fields (tested_field test)
test-found fields found places [] i test are inside is = absurd (omega arith)
test-found fields found [] (t ∷ tests) i test are inside is = cc
test-found fields found (place ∷ places) (t ∷ tests) zero test are inside is = let first : found_at found place ≡ field_of fields (tested_field t) = cc in first ∙ ap (λ (u : Test). field_of fields (tested_field u)) (sym is)
test-found fields found (place ∷ places) (t ∷ tests) (suc i) test are inside is = let rest : map (found_at found) places ≡ map (field_of fields) (tested_fields tests) = cc in test-found fields found places tests i test rest (omega arith) is

-- a test passes of what its own field has just where it holds
test_holds-holds : (fields : List ℕ) (test : Test) → test_holds test (option_map (text_at fields) (field_of fields (tested_field test))) ≡ holds fields test
test_holds-holds fields (Is field wanted) = refl
test_holds-holds fields (IsNot field wanted) = refl

-- a test passes of what was looked up where it holds
pub test-holds : (fields : List ℕ) (found : List (Option Span)) (places : List ℕ) (tests : List Test) (i : ℕ) (test : Test) (value : Option (List ℕ)) (result : Bool) → map (found_at found) places ≡ map (field_of fields) (tested_fields tests) → i < length tests → test ≡ get_or tests i test
    → value ≡ option_map (text_at fields) (found_at found (get_or places i 0)) → result ≡ test_holds test value → holds fields test ≡ result
test-holds fields found places tests i test value result are inside is value_is result_is =
    sym (result_is ∙ ap (test_holds test) (value_is ∙ ap (option_map (text_at fields)) (test-found fields found places tests i test are inside is)) ∙ test_holds-holds fields test)

module _ {X : Type 0} (p : X → Bool) where
  -- one more passes
  pub all-more : (xs : List X) (i : ℕ) (x : X) → i < length xs → x ≡ get_or xs i x → list_all p (take i xs) ≡ true → p x ≡ true → list_all p (take (i + 1) xs) ≡ true
  all-more xs i x inside is so_far here = list_all_more p xs i x inside ∙ ap₂ (λ (a b : Bool). a && b) so_far (ap p (sym is) ∙ here)

  -- two do not both hold where the second does not
  and_false : (b : Bool) → (b && false) ≡ false
  and_false true = refl
  and_false false = refl

  -- one does not pass
  pub all-never : (xs : List X) (i : ℕ) (x : X) → i < length xs → x ≡ get_or xs i x → p x ≡ false → list_all p xs ≡ false
  all-never [] i x inside is here = absurd (omega arith)
  all-never (y ∷ ys) zero x inside is here = ap (λ (b : Bool). b && list_all p ys) (ap p (sym is) ∙ here)
  all-never (y ∷ ys) (suc i) x inside is here = ap (λ (b : Bool). p y && b) (all-never ys i x (omega arith) is here) ∙ and_false (p y)

-- all tests hold of what was looked up just where they hold of the line
pub tests-hold : (fields : List ℕ) (found : List (Option Span)) (places : List ℕ) (tests : List Test) → map (found_at found) places ≡ map (field_of fields) (tested_fields tests) → tests_hold (value_found fields found) places tests ≡ list_all (holds fields) tests
tests-hold fields found places [] are = refl
tests-hold fields found [] (t ∷ tests) are = cc
tests-hold fields found (place ∷ places) (t ∷ tests) are =
    let first : found_at found place ≡ field_of fields (tested_field t) = cc in
    let rest : map (found_at found) places ≡ map (field_of fields) (tested_fields tests) = cc in
    ap₂ (λ (a b : Bool). a && b) (ap (λ (o : Option Span). test_holds t (option_map (text_at fields) o)) first ∙ test_holds-holds fields t) (tests-hold fields found places tests rest)

-- the pid of a rule's field is that of what was looked up
pub pid-found : (fields : List ℕ) (line : TraceLine) (name : Option (List ℕ)) → pid_found fields line (option_map (field_of fields) name) ≡ pid_of fields line name
pid-found fields line None = refl
pid-found fields line (Some name) = refl
