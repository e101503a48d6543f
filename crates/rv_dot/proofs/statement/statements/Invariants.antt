use Rattle.std.proofs.Common.{length}
use Rattle.rv_dot.specs.declared.token.Mark.TheVariants.{CloseBrace, Semicolon}
use Rattle.rv_dot.specs.Marks.{past_mark}
use Rattle.rv_dot.specs.Statements.{statement_at}
use Rattle.rv_dot.specs.inner.Held.{claims}
use Rattle.rv_dot.proofs.ListLoops.{IsUnderWay}
use Rattle.rv_dot.proofs.statement.statements.Given as goal

abbrev pub invariant-statements : goal.invariant-statements
invariant-statements l = IsUnderWay CloseBrace statement_at (past_mark Semicolon) (claims l.found.items) l.rest l.tokens

abbrev pub decreases-statements : goal.decreases-statements
decreases-statements l = length l.rest
