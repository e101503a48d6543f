use Rattle.rv_ltl.specs.inner.Machine.{defs}
use Rattle.rv_ltl.specs.inner.Reached.{AreUses}
use Rattle.rv_ltl.proofs.uses.uses.Given as goal

abbrev pub invariant-definitions : goal.invariant-definitions
invariant-definitions l = AreUses (defs l.definitions) l.rows.items l.definition-index
