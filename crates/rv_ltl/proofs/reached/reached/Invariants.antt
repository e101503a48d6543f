use Rattle.rv_ltl.specs.inner.Reached.{IsUnderWay, undone}
use Rattle.rv_ltl.proofs.reached.reached.Given as goal

abbrev pub invariant-loop-i : goal.invariant-loop-i
invariant-loop-i l = IsUnderWay l.uses l.root l.flags.items l.done.items

abbrev pub decreases-loop-i : goal.decreases-loop-i
decreases-loop-i l = undone l.done.items
