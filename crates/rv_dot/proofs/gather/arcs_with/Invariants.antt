use Rattle.std.proofs.Common.{◌≡◌, take, map}
use Rattle.rv_dot.specs.Gathered.{arcs_with}
use Rattle.rv_dot.specs.inner.Held.{arc, bytes_of}
use Rattle.rv_dot.proofs.gather.arcs_with.Given as goal

abbrev pub invariant-events : goal.invariant-events
invariant-events l = map arc l.found.items ≡ arcs_with l.from l.to (map bytes_of (take l.event-index l.events))
