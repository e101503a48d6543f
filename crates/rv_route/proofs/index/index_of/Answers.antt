use Rattle.std.proofs.Common.{◌≡◌, ◌<◌, ◌≤◌, length, take, rules, subst}
use Rattle.std.specs.Prelude.{All}
use Rattle.std.proofs.lemmas.List.{take_all}
use Rattle.std.proofs.lemmas.List.Elements.{All-more}
use Rattle.rv_bind.specs.RuleValues.{OnValue}
use Rattle.rv_route.specs.Events.{HasEvent}
use Rattle.rv_route.proofs.index.index_of.Goals as goal

pub loop-rule-preserved : goal.loop-rule-preserved
loop-rule-preserved c =
    let i = c.loop-rule.rule-index in
    let all = c.args.rules.now in
    let rule = c.rule-item.result in
    let inside : i < length all = search rules in
    let named : c.bytes.result.now ≡ rule.event = search rules in
    let has : HasEvent c.note.new.index rule.event = subst (HasEvent c.note.new.index) named c.in_ok-note.ensures.noted in
    let before : All (λ (r : OnValue). HasEvent c.note.new.index r.event) (take i all) = λ k d within. c.in_ok-note.ensures.kept _ (c.loop-rule.invariant.1 k d within) in
    (c.in_ok-note.ensures.events, All-more (λ (r : OnValue). HasEvent c.note.new.index r.event) all i rule inside before (subst (λ (r : OnValue). HasEvent c.note.new.index r.event) c.rule-item.is has))

pub returns : goal.returns
returns c =
    let all = c.args.rules.now in
    let end : length all ≤ c.loop-rule.rule-index = search rules in
    record {
      events = c.loop-rule.invariant.0;
      has = subst (All (λ (r : OnValue). HasEvent c.loop-rule.index r.event)) (take_all c.loop-rule.rule-index all end) c.loop-rule.invariant.1;
    }
