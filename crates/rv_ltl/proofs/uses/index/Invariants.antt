use Rattle.rv_ltl.specs.inner.Machine.{defs}
use Rattle.rv_ltl.proofs.Elements.{IsNoneBefore}
use Rattle.rv_ltl.proofs.uses.index.Given as goal

abbrev pub invariant-loop-i : goal.invariant-loop-i
invariant-loop-i l = IsNoneBefore (defs l.definitions) l.name l.i
