-- The first test that holds on no line is told, and where there is none, that the tests hold together on none.
use Rattle.std.proofs.Common.{◌<◌, ◌≤◌, List, ℕ, [], ◌++◌, min, length, arith, sym, ap, ◌∙◌}
use Rattle.std.proofs.lemmas.Result.{on_ok_weaker}
use Rattle.rv_findings.specs.Findings.{never, never_text, test_never_text}
use Rattle.rv_findings.proofs.NeverLemmas.{no_line, no_test, some_line}
use Rattle.rv_findings.proofs.rule_findings.put_never.Goals as goal

pub returns-then-holds-place-eq0 : goal.returns-then-holds-place-eq0
returns-then-holds-place-eq0 c =
    let tests = c.args.tests.now in
    let holds = c.args.holds.now in
    let test = c.index-tests-place.result in
    let lt : c.tests.place < length c.args.tests.now = omega arith in
    let lt' : c.tests.place < length c.args.holds.now = omega arith in
    on_ok_weaker c.put_test_never.result
    (λ last. last ∙ ap (λ (o : List ℕ). o ++ test_never_text c.args.event.now c.args.c.now test) c.tests.invariant.kept
    ∙ ap (λ (t : List ℕ). c.args.out.now ++ t) (sym (no_line tests holds c.tests.place (never tests holds) c.args.event.now c.args.c.now test lt lt' c.index-tests-place.is c.if-holds-place-eq0.true c.tests.invariant.left)))
    c.put_test_never.ensures

pub tests-preserved : goal.tests-preserved
tests-preserved c =
    let tests = c.args.tests.now in
    let holds = c.args.holds.now in
    let lt : c.tests.place < length c.args.tests.now = omega arith in
    let lt' : c.tests.place < length c.args.holds.now = omega arith in
    record { kept = c.tests.invariant.kept; left = some_line tests holds c.tests.place (never tests holds) lt lt' c.if-holds-place-eq0.false c.tests.invariant.left }

pub returns : goal.returns
returns c =
    let tests = c.args.tests.now in
    let holds = c.args.holds.now in
    let le : min (length c.args.tests.now) (length c.args.holds.now) ≤ c.tests.place = omega arith in
    on_ok_weaker c.put_word.result
    (λ last. last ∙ ap (λ (o : List ℕ). o ++ never_text c.args.event.now c.args.c.now []) c.tests.invariant.kept
    ∙ ap (λ (t : List ℕ). c.args.out.now ++ t) (sym (no_test tests holds c.tests.place (never tests holds) c.args.event.now c.args.c.now le c.tests.invariant.left)))
    c.put_word.ensures
