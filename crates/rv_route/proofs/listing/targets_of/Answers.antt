use Rattle.std.proofs.Common.{◌≡◌, ap, ◌∙◌, map, length, rules}
use Rattle.std.proofs.lemmas.List.{take_all, length-map}
use Rattle.rv_route.specs.declared.listing.Target.{Target}
use Rattle.rv_route.specs.Listing.{target_of}
use Rattle.rv_route.proofs.MappedLemmas.{mapped-more}
use Rattle.rv_route.proofs.listing.targets_of.Goals as goal

pub loop-rule-preserved : goal.loop-rule-preserved
loop-rule-preserved c =
    let target : Target = record { monitor = c.rule.inside.monitor; hit = c.rule.inside.hit } in
    let is : target ≡ target_of c.rule-item.result = search rules in
    mapped-more target_of c.args.rules.now c.loop-rule.rule-index c.rule-item.result target c.loop-rule.targets.items c.push.new.self.items c.loop-rule-test.true c.rule-item.is is c.loop-rule.invariant c.in_ok-push.ensures.items

pub returns-clause-targets : goal.returns-clause-targets
returns-clause-targets c = c.loop-rule.invariant ∙ ap (map target_of) (take_all c.loop-rule.rule-index c.args.rules.now c.loop-rule-test.false)

pub returns-clause-few : goal.returns-clause-few
returns-clause-few c =
    let many : length c.loop-rule.targets.items ≡ length c.args.rules.now =
    ap length (c.loop-rule.invariant ∙ ap (map target_of) (take_all c.loop-rule.rule-index c.args.rules.now c.loop-rule-test.false)) ∙ length-map c.args.rules.now target_of in
    rw many c.requires
