use Rattle.std.proofs.Common.{◌≡◌, ◌++◌, [], ◌∷◌, sym, ap, arith, ◌∙◌}
use Rattle.std.proofs.lemmas.List.{map_push}
use Rattle.rv_dot.specs.declared.token.Mark.TheVariants.{CloseBrace, Semicolon}
use Rattle.rv_dot.specs.inner.Held.{lexeme, lexemes}
use Rattle.rv_dot.specs.Marks.{past_mark}
use Rattle.rv_dot.specs.Lists.{one_item, name_item}
use Rattle.rv_dot.proofs.ListLoops.{at_front, goes_on, ends, is_done}
use Rattle.rv_dot.proofs.lists.names.Goals as goal

pub names-init : goal.names-init
names-init c = rw c.new-found.ensures.items (at_front CloseBrace name_item (past_mark Semicolon) c.args.tokens.now)

pub returns-in_default-clause-value : goal.returns-in_default-clause-value
returns-in_default-clause-value c = ends CloseBrace name_item (past_mark Semicolon) (lexemes c.names.found.items) c.names.rest.now c.args.tokens.now c.names.invariant (sym c.begins.ensures.value ∙ c.names-test.true) (ap one_item (sym c.in_default.ensures.value))

pub names-preserved : goal.names-preserved
names-preserved c =
    let found : lexemes c.push.new.self.items ≡ lexemes c.names.found.items ++ lexeme c.in-Some.name ∷ [] = rw c.in_ok-push.ensures.items (map_push lexeme c.names.found.items c.in-Some.name) in
    rw found (goes_on CloseBrace name_item (past_mark Semicolon) (lexemes c.names.found.items) c.names.rest.now c.args.tokens.now c.names.invariant (lexeme c.in-Some.name ∷ []) (lexemes c.in-Some.after.now) c.past_mark-rest.result.now
    (sym c.begins.ensures.value ∙ c.names-test.true) (ap one_item (sym c.in-Some.ensures.value)) c.past_mark-rest.ensures.value (omega (arith, c.in-Some.ensures.within, c.past_mark-rest.ensures.within)))

pub returns-clause-value : goal.returns-clause-value
returns-clause-value c = rw c.past_mark.ensures.value (is_done CloseBrace name_item (past_mark Semicolon) (lexemes c.names.found.items) c.names.rest.now c.args.tokens.now c.names.invariant (sym c.begins.ensures.value ∙ c.names-test.false))
