-- The tests of a rule field by field, as one more comes in.
use Rattle.std.proofs.Common.{◌≡◌, ℕ, zero, suc, ◌+◌, ◌<◌, ◌&&◌, Bool, true, false, List, [], ◌∷◌, length, get_or, set, take, Option, refl, sym, ap, ◌∙◌, arith}
use Rattle.rv_bind.specs.declared.bindings.Test.{Test}
use Rattle.rv_route.specs.declared.field_tests.FieldTest.{FieldTest}
use Rattle.rv_route.specs.FieldTests.{passes, all_pass, test_holds, tests_hold}
use Rattle.rv_route.specs.inner.Narrowing.{IsNarrowed, HasTestMore}

-- the last of three facts may stand second
last-second : (a b c : Bool) → ((a && b) && c) ≡ ((a && c) && b)
last-second true true true = refl
last-second true true false = refl
last-second true false true = refl
last-second true false false = refl
last-second false b c = refl

-- three facts, of which two go together
together : (a b c : Bool) → (a && (b && c)) ≡ ((a && b) && c)
together true b c = refl
together false b c = refl

-- one test more of a field that is tested already
pub narrowed-more : (list : List FieldTest) (at place : ℕ) (test : Test) (old new : FieldTest) → at < length list → old ≡ get_or list at old → (get_or list at old).place ≡ place → IsNarrowed old (test_holds test) new → HasTestMore list place test (set list at new)
narrowed-more [] at place test old new inside is here narrowed values = absurd (omega (arith, inside))
narrowed-more (t ∷ list) zero place test old new inside is here narrowed values =
    let at_place : old.place ≡ place = ap (λ (o : FieldTest). o.place) is ∙ here in
    ap (λ (n : ℕ). passes new (values n) && all_pass values list) (narrowed.place ∙ at_place)
    ∙ ap (λ (b : Bool). b && all_pass values list) (narrowed.passes (values place))
    ∙ last-second (passes old (values place)) (test_holds test (values place)) (all_pass values list)
    ∙ ap (λ (n : ℕ). (passes old (values n) && all_pass values list) && test_holds test (values place)) (sym at_place)
    ∙ ap (λ (o : FieldTest). (passes o (values o.place) && all_pass values list) && test_holds test (values place)) is
narrowed-more (t ∷ list) (suc at) place test old new inside is here narrowed values =
    ap (λ (b : Bool). passes t (values t.place) && b) (narrowed-more list at place test old new (omega (arith, inside)) is here narrowed values) ∙ together (passes t (values t.place)) (all_pass values list) (test_holds test (values place))

-- a fact and true
and-true : (a : Bool) → (a && true) ≡ a
and-true true = refl
and-true false = refl

-- all of the first tests hold, and one more
pub hold-more : (values : ℕ → Option (List ℕ)) (places : List ℕ) (tests : List Test) (i next : ℕ) (test : Test) → next ≡ i + 1 → i < length tests → length places ≡ length tests → test ≡ get_or tests i test
    → tests_hold values (take next places) (take next tests) ≡ (tests_hold values (take i places) (take i tests) && test_holds test (values (get_or places i 0)))
hold-more values places [] i next test one inside many is = absurd (omega (arith, inside))
hold-more values [] (t ∷ tests) i next test one inside many is = cc
hold-more values (p ∷ places) (t ∷ tests) i zero test one inside many is = absurd (omega (arith, one))
hold-more values (p ∷ places) (t ∷ tests) zero (suc zero) test one inside many is = and-true (test_holds t (values p)) ∙ ap (λ (u : Test). test_holds u (values p)) (sym is)
hold-more values (p ∷ places) (t ∷ tests) zero (suc (suc m)) test one inside many is = absurd (omega (arith, one))
hold-more values (p ∷ places) (t ∷ tests) (suc i) (suc next) test one inside many is =
    ap (λ (b : Bool). test_holds t (values p) && b) (hold-more values places tests i next test (omega (arith, one)) (omega (arith, inside)) (omega (arith, many)) is)
    ∙ together (test_holds t (values p)) (tests_hold values (take i places) (take i tests)) (test_holds test (values (get_or places i 0)))
