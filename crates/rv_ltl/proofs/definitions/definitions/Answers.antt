use Rattle.std.proofs.Common.{◌++◌, ◌∷◌, [], List, refl, sym, ap, ◌∙◌}
use Rattle.rv_ltl.specs.declared.token.CodeStep.{CodeStep}
use Rattle.rv_ltl.specs.inner.Postfix.{code}
use Rattle.std.proofs.lemmas.Result.{err_from_is_err_and}
use Rattle.std.proofs.lemmas.Bool.{eqb-true, eqb-false}
use Rattle.rv_ltl.specs.File.{Def}
use Rattle.rv_ltl.proofs.FileLaws.{goes_on, ends, full, headless, done, two_drops}
use Rattle.rv_ltl.proofs.Coded.{coded_some, more_codes}
use Rattle.rv_ltl.proofs.definitions.definitions.Goals as goal

pub returns-then-more-eq0 : goal.returns-then-more-eq0
returns-then-more-eq0 c =
    let i = c.loop-rest.invariant in
    full 256 c.loop-rest.more i.0 c.loop-rest.rest.now _ c.if-more-eq0.true (eqb-false _ _ (sym c.loop-rest-test.ensures)) i.2

pub returns-in_default : goal.returns-in_default
returns-in_default c =
    let i = c.loop-rest.invariant in
    headless 256 c.loop-rest.more i.0 c.loop-rest.rest.now _ (sym c.in_default.ensures) (eqb-false _ _ (sym c.loop-rest-test.ensures)) i.2

pub returns-in_err-rest : goal.returns-in_err-rest
returns-in_err-rest c =
    let i = c.loop-rest.invariant in
    let p = err_from_is_err_and c.from_residual.result c.from_residual.ensures.1 in
    let b = two_drops c.loop-rest.rest.now c.after.result.now c.after-in-loop-rest.result.now c.after.ensures c.after-in-loop-rest.ensures in
    rw (p.1, p.2) (ends c.in_err-rest.field-0.0 256 c.loop-rest.more i.0 c.loop-rest.rest.now c.after-in-loop-rest.result.now c.in-Some.name _ (sym c.in-Some.ensures) c.if-more-eq0.false b c.in_err-rest.ensures i.2)

pub loop-rest-preserved : goal.loop-rest-preserved
loop-rest-preserved c =
    let i = c.loop-rest.invariant in
    let b = two_drops c.loop-rest.rest.now c.after.result.now c.after-in-loop-rest.result.now c.after.ensures c.after-in-loop-rest.ensures in
    let r = coded_some c.new-code.result.items c.expression.new.out.items _ c.in_ok-rest.rest.now c.in_ok-rest.ensures in
    let d : Def = record { name = c.in-Some.name; body = r.tree } in
    (i.0 ++ d ∷ [], more_codes i.0 c.loop-rest.out.items d _ c.push.new.self.items c.in_ok-push.ensures.items refl (r.text ∙ ap (λ (x : List CodeStep). x ++ code r.tree) c.new-code.ensures.items) i.1, goes_on 256 c.loop-rest.more i.0 c.loop-rest.rest.now c.after-in-loop-rest.result.now c.in_ok-rest.rest.now c.in-Some.name r.tree _ (sym c.in-Some.ensures) c.if-more-eq0.false b r.is i.2)

pub returns : goal.returns
returns c =
    let i = c.loop-rest.invariant in
    (i.0, done 256 c.loop-rest.more i.0 c.loop-rest.rest.now _ (eqb-true _ _ (sym c.loop-rest-test.ensures)) i.2, i.1)
