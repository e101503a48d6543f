use Rattle.std.proofs.Common.{◌≡◌, ◌++◌, map, take}
use Rattle.rv_tableau.specs.Pairs.{join}
use Rattle.rv_tableau.proofs.pairs.add_joined.Given as goal

abbrev pub invariant-loop-q : goal.invariant-loop-q
invariant-loop-q l = l.out.items ≡ l.fn.out.items ++ map (join l.p) (take l.q-index l.b)
