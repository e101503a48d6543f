use Rattle.std.proofs.Common.{◌≡◌, ◌+◌, ◌<◌, [], ◌∷◌, ◌++◌, List, length, map, take, refl, rules, sym, ap, ◌∙◌, subst, arith}
use Rattle.std.specs.Prelude.{All}
use Rattle.std.specs.List.{AllZip}
use Rattle.std.proofs.lemmas.List.{take_all, take_more}
use Rattle.rv_bind.specs.RuleValues.{OnValue}
use Rattle.rv_route.specs.Events.{IsIndexOf}
use Rattle.rv_matches.specs.declared.rule_lines.RuleLine.{RuleLine}
use Rattle.rv_matches.specs.RuleLines.{IsByTests, IsPlainEvent, IsRuleLine, rule_counts, without_by}
use Rattle.rv_matches.proofs.AskedLemmas.{asked_are}
use Rattle.rv_matches.proofs.PlaceLemmas.{fits_push}
use Rattle.rv_matches.proofs.rule_lines.RuleLines.new.Goals as goal

pub loop-rule-preserved : goal.loop-rule-preserved
loop-rule-preserved c =
    let all = c.deref-rule-items.result.now in
    let i = c.loop-rule.rule-index in
    let rule = c.rule-item.result in
    let inside : i < length all = search rules in
    let front : take (i + 1) all ≡ take i all ++ rule ∷ [] = take_more all i rule inside ∙ ap (λ (r : OnValue). take i all ++ r ∷ []) (sym c.rule-item.is) in
    let N : OnValue → RuleLine → Type 0 = λ (rule : OnValue) (r : RuleLine). IsRuleLine (rule_counts [] rule) r in
    let line = c.in_ok-no_lines.field-0 in
    rw (front, c.in_ok-push.ensures.items) (record {
      none = fits_push N (take i all) c.loop-rule.counts.items rule line c.loop-rule.invariant.none c.in_ok-no_lines.ensures.none;
      places = fits_push IsByTests (take i all) c.loop-rule.counts.items rule line c.loop-rule.invariant.places c.in_ok-no_lines.ensures.places;
    })

pub returns-clause-made : goal.returns-clause-made
returns-clause-made c =
    let all = c.deref-rule-items.result.now in
    let whole : take c.loop-rule.rule-index all ≡ c.in_ok-asked.asked.items = take_all c.loop-rule.rule-index all (omega arith) ∙ c.deref-rule-items.ensures.value in
    record {
      asked = c.in_ok-asked.ensures;
      plain = subst (λ (rs : List OnValue). All (IsPlainEvent rs) c.in_ok-plain.plain) c.as_slice-list.ensures.value c.in_ok-plain.ensures;
      index = subst (λ (rs : List OnValue). IsIndexOf rs c.in_ok-index.index) c.as_slice-list.ensures.value c.in_ok-index.ensures;
      places = subst (λ (rs : List OnValue). AllZip IsByTests rs c.loop-rule.counts.items) whole c.loop-rule.invariant.places;
    }

pub returns-clause-none : goal.returns-clause-none
returns-clause-none c =
    let all = c.deref-rule-items.result.now in
    let N : OnValue → RuleLine → Type 0 = λ (rule : OnValue) (r : RuleLine). IsRuleLine (rule_counts [] rule) r in
    let whole : take c.loop-rule.rule-index all ≡ map without_by c.args.rules.now = take_all c.loop-rule.rule-index all (omega arith) ∙ c.deref-rule-items.ensures.value ∙ c.in_ok-asked.ensures in
    asked_are c.args.rules.now [] _ (record {
      each = subst (λ (rs : List OnValue). AllZip N rs c.loop-rule.counts.items) whole c.loop-rule.invariant.none;
      named = refl;
      fired = refl;
    })
