-- The first test that holds on no line, and the nearest name.
use Rattle.std.proofs.Common.{◌≡◌, ◌≢◌, ℕ, ◌+◌, ◌<◌, ◌≤◌, min, true, false, List, [], ◌∷◌, ◌++◌, length, drop, get_or, refl, sym, ap, ◌∙◌, arith}
use Rattle.std.specs.Prelude.{◌==◌}
use Rattle.std.proofs.lemmas.Bool.Decides.{nat_tests}
use Rattle.rv_bind.specs.declared.bindings.Test.{Test}
use Rattle.rv_bind.specs.declared.bindings.Test.TheVariants.{Is}
use Rattle.rv_facts.specs.declared.counts.Near.{Near}
use Rattle.rv_facts.specs.declared.counts.RuleCounts.{RuleCounts}
use Rattle.rv_findings.specs.Findings.{near_text, nearest_text, never_holds, never_text, test_never_text}
use Rattle.rv_facts.specs.Pairs.{pairs_from}
use Rattle.rv_facts.proofs.PairLemmas.{next_pair, no_pair}

-- the first name is the nearest
pub nearest_is : (near : List Near) (n : Near) → 0 < length near → n ≡ get_or near 0 n → nearest_text near ≡ near_text n
nearest_is [] n some is = let none : ⊥ = omega arith in absurd none
nearest_is (x ∷ near) n some is = ap near_text (sym is)

-- those that hold on no line, from a place on
abbrev left : List Test → List ℕ → ℕ → List Test
left tests holds place = pairs_from never_holds place (drop place tests) (drop place holds)

module _ (tests : List Test) (holds : List ℕ) (place : ℕ) (all : List Test) where
  -- one that holds on some line is passed over
  pub some_line : place < length tests → place < length holds → get_or holds place 0 ≢ 0 → pairs_from never_holds place (drop place tests) (drop place holds) ≡ all
      → pairs_from never_holds (place + 1) (drop (place + 1) tests) (drop (place + 1) holds) ≡ all
  some_line lt lt' some is =
      let not_zero : (get_or holds place 0 == 0) ≡ false = grind (arith, nat_tests) in
      let none : never_holds place (get_or tests place (Is [] [])) (get_or holds place 0) ≡ [] = rw not_zero refl in
      ap (λ (z : List Test). z ++ left tests holds (place + 1)) (sym none) ∙ sym (next_pair never_holds tests holds place (Is [] []) 0 lt lt') ∙ is

  -- one that holds on none is the first
  pub no_line : (event : List ℕ) (c : RuleCounts) (test : Test) → place < length tests → place < length holds → test ≡ get_or tests place test → get_or holds place 0 ≡ 0
      → pairs_from never_holds place (drop place tests) (drop place holds) ≡ all → never_text event c all ≡ test_never_text event c test
  no_line event c test lt lt' at none is =
      let zero_lines : (get_or holds place 0 == 0) ≡ true = grind (arith, nat_tests) in
      let one : never_holds place (get_or tests place test) (get_or holds place 0) ≡ get_or tests place test ∷ [] = rw zero_lines refl in
      ap (never_text event c) (sym is ∙ next_pair never_holds tests holds place test 0 lt lt' ∙ ap (λ (z : List Test). z ++ left tests holds (place + 1)) one)
      ∙ ap (test_never_text event c) (sym at)

  -- where no test is left, there is none
  pub no_test : (event : List ℕ) (c : RuleCounts) → min (length tests) (length holds) ≤ place → pairs_from never_holds place (drop place tests) (drop place holds) ≡ all → never_text event c all ≡ never_text event c []
  no_test event c le is = ap (never_text event c) (sym is ∙ no_pair never_holds tests holds place le)
