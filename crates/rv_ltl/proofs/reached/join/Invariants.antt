use Rattle.rv_ltl.specs.inner.Reached.{Joins}
use Rattle.rv_ltl.proofs.reached.join.Given as goal

abbrev pub invariant-loop-i : goal.invariant-loop-i
invariant-loop-i l = Joins l.initial.flags.items l.row l.flags.items l.i
