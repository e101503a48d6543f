use Rattle.std.proofs.Common.{◌≡◌, map, take}
use Rattle.std.specs.Prelude.{not}
use Rattle.std.specs.List.{filter}
use Rattle.std.specs.Str.{bytes_eq}
use Rattle.rv_dot.specs.inner.Held.{bytes_of}
use Rattle.rv_dot.proofs.reading.without.Given as goal

abbrev pub invariant-names : goal.invariant-names
invariant-names l = map bytes_of l.found.items ≡ filter (λ s. not (bytes_eq s l.name)) (map bytes_of (take l.other-index l.names))
