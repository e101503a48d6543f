use Rattle.std.proofs.Common.{ℕ, List, ap, ◌∙◌}
use Rattle.std.specs.List.{list_all}
use Rattle.rv_route.specs.Asking.{holds}
use Rattle.rv_matches.specs.declared.rule_lines.RuleLine.{RuleLine}
use Rattle.rv_matches.proofs.CountedRuleLemmas.{firing}
use Rattle.rv_matches.proofs.plain_events.add_fired.Goals as goal

pub returns-clause-counts : goal.returns-clause-counts
returns-clause-counts c = λ rule fields so_it_is lines line named is was.
    let new : RuleLine = record { lines = c.in_ok-count.field-0; fires = c.in_ok-count-2.field-0; holds = c.empty.new.list; fields = c.empty-2.new.list } in
    firing rule lines line named c.args.count.now new was c.in_ok-count.ensures (ap (λ (f : List ℕ). list_all (holds f) rule.tests) is ∙ so_it_is) c.in_ok-count-2.ensures c.empty.ensures c.empty-2.ensures
