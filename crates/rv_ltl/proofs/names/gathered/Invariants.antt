use Rattle.std.proofs.Common.{◌≡◌, take}
use Rattle.rv_ltl.specs.inner.Texts.{texts}
use Rattle.rv_ltl.specs.Names.{names_of}
use Rattle.rv_ltl.proofs.names.gathered.Given as goal

abbrev pub invariant-pieces : goal.invariant-pieces
invariant-pieces l = texts l.set.keys ≡ names_of (texts (take l.piece-index l.pieces))
