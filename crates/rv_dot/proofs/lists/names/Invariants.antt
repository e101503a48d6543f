use Rattle.std.proofs.Common.{length}
use Rattle.rv_dot.specs.declared.token.Mark.TheVariants.{CloseBrace, Semicolon}
use Rattle.rv_dot.specs.inner.Held.{lexemes}
use Rattle.rv_dot.specs.Marks.{past_mark}
use Rattle.rv_dot.specs.Lists.{name_item}
use Rattle.rv_dot.proofs.ListLoops.{IsUnderWay}
use Rattle.rv_dot.proofs.lists.names.Given as goal

abbrev pub invariant-names : goal.invariant-names
invariant-names l = IsUnderWay CloseBrace name_item (past_mark Semicolon) (lexemes l.found.items) l.rest l.tokens

abbrev pub decreases-names : goal.decreases-names
decreases-names l = length l.rest
