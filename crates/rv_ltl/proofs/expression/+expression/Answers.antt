use Rattle.std.proofs.Common.{ℕ, refl, sym, ap, ◌∙◌, arith}
use Rattle.std.proofs.lemmas.Result.{err_from_is_err_and}
use Rattle.rv_ltl.specs.declared.token.Token.TheVariants as token
use Rattle.rv_ltl.specs.declared.token.CodeStep.TheVariants as steps
use Rattle.rv_ltl.specs.Grammar.{Expr}
use Rattle.rv_ltl.specs.Parse.{chain_at, term_at}
use Rattle.rv_ltl.proofs.ChainSteps.{chain_full, chain_other, chain_ends, chain_end, term_true, term_false, term_name}
use Rattle.rv_ltl.proofs.Coded.{some_coded, post_paren, post_open, put_leaf, put_unary, post_more}
use Rattle.rv_ltl.proofs.expression.+expression.Goals as goal

pub expression-returns-then-more-eq0 : goal.expression-returns-then-more-eq0
expression-returns-then-more-eq0 t c =
    let i = c.loop-other.invariant in
    sym i.2 ∙ ap (λ (n : ℕ). chain_at (term_at c.args.depth) c.in-Some.op n i.0 c.loop-other.rest.now) c.if-more-eq0.true ∙ chain_full (term_at c.args.depth) c.in-Some.op c.in-Some-operator.other i.0 c.loop-other.rest.now (sym c.in-Some-operator.ensures)

pub expression-returns-then-not-is_same_operator : goal.expression-returns-then-not-is_same_operator
expression-returns-then-not-is_same_operator t c =
    let i = c.loop-other.invariant in
    sym i.2 ∙ chain_other (term_at c.args.depth) c.in-Some.op c.in-Some-operator.other c.loop-other.more i.0 c.loop-other.rest.now (sym c.in-Some-operator.ensures) (sym c.if-not-is_same_operator.ensures)

pub expression-returns-in_err-rest-2 : goal.expression-returns-in_err-rest-2
expression-returns-in_err-rest-2 t c =
    let i = c.loop-other.invariant in
    let p = err_from_is_err_and c.from_residual-in_err-rest-2.result c.from_residual-in_err-rest-2.ensures.1 in
    rw (p.1, p.2) (chain_ends c.in_err-rest-2.field-0.0 (term_at c.args.depth) c.in-Some.op c.in-Some-operator.other c.loop-other.more i.0 c.loop-other.rest.now c.after.result.now _ (sym c.in-Some-operator.ensures) (sym c.if-not-is_same_operator.ensures) (omega arith) c.after.ensures c.in_err-rest-2.ensures i.2)

pub expression-loop-other-preserved : goal.expression-loop-other-preserved
expression-loop-other-preserved t c =
    let i = c.loop-other.invariant in
    post_more c.args.depth c.loop-other.more c.in-Some.op c.in-Some-operator.other i.0 c.args.out.now.items c.loop-other.out.items c.term-in-Some-operator.new.out.items c.push.new.self.items c.loop-other.rest.now c.after.result.now c.in_ok-rest-2.rest.now _ (sym c.in-Some-operator.ensures) (sym c.if-not-is_same_operator.ensures) (omega arith) c.after.ensures i.1 c.in_ok-rest-2.ensures c.in_ok-push.ensures.items i.2

pub expression-returns : goal.expression-returns
expression-returns t c =
    let i = c.loop-other.invariant in
    some_coded c.args.out.now.items c.loop-other.out.items _ i.0 c.loop-other.rest.now (sym i.2 ∙ chain_end (term_at c.args.depth) c.in-Some.op c.loop-other.more i.0 c.loop-other.rest.now (cc)) i.1

pub term-returns-then-not-is_close : goal.term-returns-then-not-is_close
term-returns-then-not-is_close t c =
    post_open c.args.depth c.args.out.now.items c.expression.new.out.items c.args.tokens.now c.after-rest.result.now c.in_ok-rest-in-Open.rest.now (cc) c.after-rest.ensures (omega arith) c.in_ok-rest-in-Open.ensures (sym c.if-not-is_close.ensures)

pub term-returns-else-not-is_close : goal.term-returns-else-not-is_close
term-returns-else-not-is_close t c =
    post_paren c.args.depth c.args.out.now.items c.expression.new.out.items c.args.tokens.now c.after-rest.result.now c.in_ok-rest-in-Open.rest.now c.after.result.now (cc) c.after-rest.ensures (omega arith) c.in_ok-rest-in-Open.ensures (sym c.if-not-is_close.ensures) c.after.ensures

pub term-returns-in-True : goal.term-returns-in-True
term-returns-in-True t c =
    put_leaf c.args.depth token.True Expr.True steps.True c.args.out.now.items c.put.new.out.items c.args.tokens.now c.after-rest.result.now c.put.result (term_true c.args.depth) refl (cc) c.after-rest.ensures c.put.ensures

pub term-returns-in-False : goal.term-returns-in-False
term-returns-in-False t c =
    put_leaf c.args.depth token.False Expr.False steps.False c.args.out.now.items c.put-in-False.new.out.items c.args.tokens.now c.after-rest.result.now c.put-in-False.result (term_false c.args.depth) refl (cc) c.after-rest.ensures c.put-in-False.ensures

pub term-returns-in-Name : goal.term-returns-in-Name
term-returns-in-Name t c =
    put_leaf c.args.depth (token.Name c.in-Name.name) (Expr.Name c.in-Name.name) (steps.Name c.in-Name.name) c.args.out.now.items c.put-in-Name.new.out.items c.args.tokens.now c.after-rest.result.now c.put-in-Name.result (term_name c.args.depth c.in-Name.name) refl (cc) c.after-rest.ensures c.put-in-Name.ensures

pub term-returns-in_ok-rest-in-Unary : goal.term-returns-in_ok-rest-in-Unary
term-returns-in_ok-rest-in-Unary t c =
    put_unary c.args.depth c.in-Unary.op c.args.out.now.items c.term.new.out.items c.put-in-Unary.new.out.items c.args.tokens.now c.after-rest.result.now c.in_ok-rest-in-Unary.rest.now c.put-in-Unary.result (cc) c.after-rest.ensures (omega arith) c.in_ok-rest-in-Unary.ensures c.put-in-Unary.ensures
