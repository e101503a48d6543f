use Rattle.std.proofs.Common.{◌≡◌, map, take}
use Rattle.rv_dot.specs.inner.Held.{bytes_of}
use Rattle.rv_dot.proofs.drawing.names.Given as goal

abbrev pub invariant-names : goal.invariant-names
invariant-names l = l.names ≡ map bytes_of (take l.name-index l.list)
