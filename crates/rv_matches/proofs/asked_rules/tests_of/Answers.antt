use Rattle.std.proofs.Common.{◌≡◌, ◌+◌, ◌<◌, List, [], ◌∷◌, ◌++◌, length, take, rules, sym, ap, ap₂, ◌∙◌}
use Rattle.std.proofs.lemmas.List.{take_more}
use Rattle.rv_bind.specs.declared.bindings.Test.{Test}
use Rattle.rv_matches.proofs.asked_rules.tests_of.Goals as goal

pub loop-test-preserved : goal.loop-test-preserved
loop-test-preserved c =
    let all = c.args.tests.now in
    let i = c.loop-test.test-index in
    let test = c.test-item.result in
    let inside : i < length all = search rules in
    let front : take (i + 1) all ≡ take i all ++ test ∷ [] = take_more all i test inside ∙ ap (λ (t : Test). take i all ++ t ∷ []) (sym c.test-item.is) in
    c.in_ok-push.ensures.items ∙ ap₂ (λ (ts : List Test) (t : Test). ts ++ t ∷ []) c.loop-test.invariant c.in_ok-test_of.ensures ∙ sym front
