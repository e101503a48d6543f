use Rattle.std.proofs.Common.{◌+◌, ◌*◌, ◌≡◌}
use Rattle.rv_ltl.proofs.expression.+expression.Given as goal
use Rattle.rv_ltl.specs.Parse.{chain_at, expr_by, term_at}
use Rattle.rv_ltl.specs.Grammar.{Expr}
use Rattle.rv_ltl.specs.inner.Postfix.{code}
use Rattle.std.proofs.Common.{◌++◌}

abbrev pub decreases-term : goal.decreases-term
decreases-term l = 2 * l.depth

abbrev pub decreases-expression : goal.decreases-expression
decreases-expression l = 2 * l.depth + 1

abbrev pub invariant-expression-loop-other : goal.invariant-expression-loop-other
invariant-expression-loop-other l = (e : Expr) × (l.out.items ≡ l.fn.out.items ++ code e) × (chain_at (term_at l.depth) l.op l.more e l.rest ≡ expr_by (term_at l.depth) l.fn.tokens)

abbrev pub decreases-expression-loop-other : goal.decreases-expression-loop-other
decreases-expression-loop-other l = l.more
