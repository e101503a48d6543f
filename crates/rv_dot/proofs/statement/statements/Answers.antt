use Rattle.std.proofs.Common.{◌≡◌, ◌++◌, refl, sym, ap, ◌∙◌, arith}
use Rattle.std.proofs.lemmas.List.{map-append}
use Rattle.std.proofs.lemmas.Result.{err_from_is_err_and}
use Rattle.rv_dot.specs.declared.token.Mark.TheVariants.{CloseBrace, Semicolon}
use Rattle.rv_dot.specs.inner.Held.{lexemes, claim, claims}
use Rattle.rv_dot.specs.Marks.{past_mark}
use Rattle.rv_dot.specs.Statements.{statement_at}
use Rattle.rv_dot.proofs.ListLoops.{at_front, goes_on, fails, is_done}
use Rattle.rv_dot.proofs.statement.statements.Goals as goal

pub statements-init : goal.statements-init
statements-init c = rw c.new-found.ensures.items (at_front CloseBrace statement_at (past_mark Semicolon) c.args.tokens.now)

pub returns-in_err-facts : goal.returns-in_err-facts
returns-in_err-facts c =
    let p = err_from_is_err_and c.from_residual.result c.from_residual.ensures.1 in
    rw (p.1, p.2) (fails CloseBrace statement_at (past_mark Semicolon) c.in_err-facts.field-0.0 (claims c.statements.found.items) c.statements.rest.now c.args.tokens.now c.statements.invariant (sym c.begins.ensures.value ∙ c.statements-test.true) c.in_err-facts.ensures.value)

pub statements-preserved : goal.statements-preserved
statements-preserved c =
    let all : c.extend_from_slice.new.self.items ≡ c.statements.found.items ++ c.in_ok-facts.facts.items = rw (c.in_ok-extend_from_slice.ensures.items, c.deref.ensures.value) refl in
    let found : claims c.extend_from_slice.new.self.items ≡ claims c.statements.found.items ++ claims c.in_ok-facts.facts.items = ap claims all ∙ map-append claim c.statements.found.items c.in_ok-facts.facts.items in
    rw found (goes_on CloseBrace statement_at (past_mark Semicolon) (claims c.statements.found.items) c.statements.rest.now c.args.tokens.now c.statements.invariant (claims c.in_ok-facts.facts.items) (lexemes c.in_ok-facts.after.now) c.past_mark-rest.result.now
    (sym c.begins.ensures.value ∙ c.statements-test.true) c.in_ok-facts.ensures.value c.past_mark-rest.ensures.value (omega (arith, c.in_ok-facts.ensures.within, c.past_mark-rest.ensures.within)))

pub returns : goal.returns
returns c = rw c.past_mark.ensures.value (is_done CloseBrace statement_at (past_mark Semicolon) (claims c.statements.found.items) c.statements.rest.now c.args.tokens.now c.statements.invariant (sym c.begins.ensures.value ∙ c.statements-test.false))
