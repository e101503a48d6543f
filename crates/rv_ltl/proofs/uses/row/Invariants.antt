use Rattle.std.proofs.Common.{take}
use Rattle.rv_ltl.specs.inner.Machine.{defs}
use Rattle.rv_ltl.specs.inner.Reached.{IsRow}
use Rattle.rv_ltl.proofs.uses.row.Given as goal

abbrev pub invariant-code : goal.invariant-code
invariant-code l = IsRow (defs l.definitions) (take l.step-index l.code) l.flags.items
