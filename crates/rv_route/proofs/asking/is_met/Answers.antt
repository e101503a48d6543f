use Rattle.std.proofs.Common.{ap, ◌∙◌, subst}
use Rattle.std.specs.Prelude.{IfSome}
use Rattle.rv_route.specs.FieldTests.{all_pass, MeanTests}
use Rattle.rv_route.specs.Asking.{value_found}
use Rattle.rv_route.proofs.AskingLemmas.{tests-hold}
use Rattle.rv_route.proofs.asking.is_met.Goals as goal

pub returns-in-Some : goal.returns-in-Some
returns-in-Some c =
    let fields = c.args.fields.now in
    let found = c.args.found.now in
    let asked = c.args.asked.now in
    let tests = c.args.rule.now.tests in
    let means : MeanTests c.in-Some.tests.items asked.tests.items tests = subst (λ o. IfSome o (λ list. MeanTests list.items asked.tests.items tests)) c.in-Some.is c.requires.found.by_field in
    c.all_pass.ensures ∙ ap (all_pass (value_found fields found)) c.as_slice.ensures.value ∙ means (value_found fields found) ∙ tests-hold fields found asked.tests.items tests c.requires.found.tests
