use Rattle.std.proofs.Common.{◌≡◌, take}
use Rattle.std.specs.Prelude.{map}
use Rattle.rv_ltl.specs.inner.Texts.{texts}
use Rattle.rv_ltl.specs.Atoms.{name_at}
use Rattle.rv_ltl.proofs.reading.names_at.Given as goal

abbrev pub invariant-numbers : goal.invariant-numbers
invariant-numbers l = l.list ≡ map (name_at (texts l.names)) (take l.number-index l.numbers)
