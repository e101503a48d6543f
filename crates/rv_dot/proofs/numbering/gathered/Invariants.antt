use Rattle.std.proofs.Common.{◌≡◌, take}
use Rattle.std.specs.Prelude.{map}
use Rattle.rv_dot.specs.Sets.{ascending}
use Rattle.rv_dot.specs.inner.Held.{bytes_of}
use Rattle.rv_dot.proofs.numbering.gathered.Given as goal

abbrev pub invariant-names : goal.invariant-names
invariant-names l = map bytes_of l.set.keys ≡ ascending (map bytes_of (take l.name-index l.names))
