use Rattle.std.proofs.Common.{◌≡◌, ◌<◌, length, Some, sym, ap, ◌∙◌, rules}
use Rattle.std.specs.Prelude.{position, slice_get}
use Rattle.std.proofs.lemmas.Option.{slice_get-get_or}
use Rattle.rv_bind.specs.Bound.{is_called, monitor_named}
use Rattle.rv_ltl.specs.inner.Texts.{texts}
use Rattle.rv_bind.specs.Changes.{brought}
use Rattle.rv_bind.specs.BoundViews.{bound_value}
use Rattle.rv_bind.proofs.BoundLemmas.{rule_added}
use Rattle.rv_bind.proofs.WellFormedLemmas.{rule_formed}
use Rattle.rv_bind.proofs.bindings.Bound.add_rule.Goals as goal

pub returns-clause-rule : goal.returns-clause-rule
returns-clause-rule c =
    let named : monitor_named (bound_value c.args.self.now) c.args.on.monitor.now ≡ Some c.in-Some.place = ap (position (is_called c.args.on.monitor.now)) (sym c.as_slice.ensures.value) ∙ sym c.in-Some.ensures.value in
    let within : c.in-Some.place < length (bound_value c.args.self.now).monitors = search rules in
    let there : slice_get (bound_value c.args.self.now).monitors c.in-Some.place ≡ Some c.index-monitor.result.now =
    slice_get-get_or (bound_value c.args.self.now).monitors c.in-Some.place c.index-monitor.result.now within ∙ ap Some (sym c.index-monitor.ensures) in
    rule_added (bound_value c.args.self.now) c.args.on.monitor.now c.in-Some.place named c.index-monitor.result.now c.args.on c.in_ok-what.what _
    there (search rules) (search rules) (search rules) (ap (λ ws. brought c.index-monitor.result.now.spec c.args.on.mode (texts ws)) (sym c.as_slice-words.ensures.value) ∙ c.in_ok-what.ensures) (search rules)

pub returns-clause-formed : goal.returns-clause-formed
returns-clause-formed c = rule_formed (bound_value c.args.self.now) _ c.args.on c.requires (returns-clause-rule c)
