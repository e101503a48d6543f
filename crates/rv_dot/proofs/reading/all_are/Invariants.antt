use Rattle.std.proofs.Common.{◌≡◌, length, map}
use Rattle.std.specs.List.{list_all}
use Rattle.std.specs.Str.{bytes_eq}
use Rattle.rv_dot.specs.inner.Held.{bytes_of}
use Rattle.rv_dot.proofs.reading.all_are.Given as goal

abbrev pub invariant-loop-rest : goal.invariant-loop-rest
invariant-loop-rest l = list_all (bytes_eq l.first) (map bytes_of l.rest) ≡ list_all (bytes_eq l.first) (map bytes_of l.others)

abbrev pub decreases-loop-rest : goal.decreases-loop-rest
decreases-loop-rest l = length l.rest
