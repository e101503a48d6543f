use Rattle.std.proofs.Common.{◌≡◌, map, take}
use Rattle.rv_dot.specs.inner.Held.{arc, bytes_of}
use Rattle.rv_dot.proofs.reading.events.Given as goal

abbrev pub invariant-arcs : goal.invariant-arcs
invariant-arcs l = map bytes_of l.found.items ≡ map (λ a. a.event) (map arc (take l.one-index l.arcs))
