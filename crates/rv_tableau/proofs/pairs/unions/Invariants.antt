use Rattle.std.proofs.Common.{◌≡◌, take}
use Rattle.rv_tableau.specs.Pairs.{unions}
use Rattle.rv_tableau.proofs.pairs.unions.Given as goal

abbrev pub invariant-loop-p : goal.invariant-loop-p
invariant-loop-p l = l.out.items ≡ unions (take l.p-index l.a) l.b
