use Rattle.std.proofs.Common.{◌≡◌, [], length, rules, sym, ap, ◌∙◌, arith}
use Rattle.std.specs.List.{list_all}
use Rattle.std.specs.Vec.{vec_len}
use Rattle.std.proofs.lemmas.Bool.{eqb-true}
use Rattle.std.proofs.lemmas.List.{nil_from_length}
use Rattle.rv_bind.specs.RuleValues.{OnValue}
use Rattle.rv_route.specs.Asking.{holds}
use Rattle.rv_matches.proofs.rule_lines.is_fired.Goals as goal

pub returns-then-is_empty : goal.returns-then-is_empty
returns-then-is_empty c =
    let tests = c.rule.inside.tests in
    let empty : vec_len tests ≡ 0 = eqb-true (vec_len tests) 0 (sym c.is_empty.ensures ∙ c.if-is_empty.true) in
    let many : vec_len tests ≡ length tests.items = search rules in
    let none : tests.items ≡ [] = nil_from_length tests.items (omega arith) in
    sym (ap (list_all (holds c.args.fields.now)) (sym (ap (λ (r : OnValue). r.tests) c.rule.view_is) ∙ none))
