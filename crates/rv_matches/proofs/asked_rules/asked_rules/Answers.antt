use Rattle.std.proofs.Common.{◌≡◌, ◌+◌, ◌<◌, List, [], ◌∷◌, ◌++◌, length, map, take, rules, sym, ap, ap₂, ◌∙◌}
use Rattle.std.proofs.lemmas.List.{map_push, take_more}
use Rattle.rv_bind.specs.RuleValues.{OnValue}
use Rattle.rv_matches.specs.RuleLines.{without_by}
use Rattle.rv_matches.proofs.asked_rules.asked_rules.Goals as goal

pub loop-rule-preserved : goal.loop-rule-preserved
loop-rule-preserved c =
    let all = c.args.rules.now in
    let i = c.loop-rule.rule-index in
    let rule = c.rule-item.result in
    let inside : i < length all = search rules in
    let front : take (i + 1) all ≡ take i all ++ rule ∷ [] = take_more all i rule inside ∙ ap (λ (r : OnValue). take i all ++ r ∷ []) (sym c.rule-item.is) in
    c.in_ok-push.ensures.items ∙ ap₂ (λ (rs : List OnValue) (r : OnValue). rs ++ r ∷ []) c.loop-rule.invariant c.in_ok-asked_rule.ensures
    ∙ sym (ap (map without_by) front ∙ map_push without_by (take i all) rule)
