use Rattle.std.proofs.Common.{◌≡◌, ◌++◌, take}
use Rattle.rv_tableau.proofs.covers.add_all.Given as goal

abbrev pub invariant-loop-p : goal.invariant-loop-p
invariant-loop-p l = l.out.items ≡ l.fn.out.items ++ take l.p-index l.pairs
