use Rattle.std.proofs.Common.{◌≡◌, false, ℕ, List, map, sym, ap, ◌∙◌, subst, refl}
use Rattle.std.specs.List.{list_all}
use Rattle.rv_route.specs.Asking.{holds}
use Rattle.rv_matches.specs.declared.rule_lines.RuleLine.{RuleLine}
use Rattle.rv_matches.specs.RuleLines.{field_told}
use Rattle.rv_matches.specs.inner.RuleSteps.{CountsFields, CountsTests}
use Rattle.rv_matches.proofs.CountedRuleLemmas.{quiet}
use Rattle.rv_matches.proofs.rule_lines.add_line.Goals as goal

pub returns-then-is_fired-clause-counts : goal.returns-then-is_fired-clause-counts
returns-then-is_fired-clause-counts c = c.in_ok-add_fired.ensures.counts c.args.rule.now c.args.fields.now (sym c.is_fired.ensures ∙ c.if-is_fired.true)

pub returns-then-is_fired-clause-places : goal.returns-then-is_fired-clause-places
returns-then-is_fired-clause-places c = c.add_fired.ensures.places c.args.rule.now c.requires.places

pub returns-clause-counts : goal.returns-clause-counts
returns-clause-counts c = λ lines line named is was.
    let rule = c.args.rule.now in
    let old : RuleLine = c.args.count.now in
    let no : list_all (holds line.fields) rule.tests ≡ false = ap (λ (f : List ℕ). list_all (holds f) rule.tests) is ∙ sym c.is_fired.ensures ∙ c.if-is_fired.false in
    let new : RuleLine = record { lines = c.in_ok-count.field-0; fires = old.fires; holds = c.add_tests.new.holds; fields = c.add_fields.new.list } in
    quiet rule lines line named old new was c.in_ok-count.ensures no refl
    (subst (λ (f : List ℕ). CountsTests f rule.tests old.holds.items new.holds.items) (sym is) c.in_ok-add_tests.ensures.counts) c.add_tests.ensures.many
    (subst (λ (f : List ℕ). CountsFields f (map field_told old.fields.items) (map field_told new.fields.items)) (sym is) c.in_ok-add_fields.ensures.counts) c.add_fields.ensures.many
