use Rattle.std.proofs.Common.{◌≡◌, drop}
use Rattle.rv_tableau.specs.Pairs.{is_one_of}
use Rattle.rv_tableau.proofs.pairs.is_one_of.Given as goal

abbrev pub invariant-loop-q : goal.invariant-loop-q
invariant-loop-q l = is_one_of l.p l.pairs ≡ is_one_of l.p (drop l.q-index l.pairs)
