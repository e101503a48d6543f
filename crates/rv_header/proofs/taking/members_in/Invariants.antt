use Rattle.std.proofs.Common.{◌≡◌, map, take}
use Rattle.rv_dot.specs.inner.Held.{bytes_of}
use Rattle.rv_header.specs.inner.Taking.{member_in}
use Rattle.rv_header.proofs.taking.members_in.Given as goal

abbrev pub invariant-texts : goal.invariant-texts
invariant-texts l = map bytes_of l.found.items ≡ map member_in (map bytes_of (take l.text-index l.text-items))
