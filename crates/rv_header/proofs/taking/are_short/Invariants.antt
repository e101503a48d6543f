use Rattle.std.proofs.Common.{◌≡◌, length, map}
use Rattle.std.specs.Prelude.{nat_le}
use Rattle.std.specs.List.{list_all}
use Rattle.rv_dot.specs.inner.Held.{bytes_of}
use Rattle.rv_header.proofs.taking.are_short.Given as goal

abbrev pub invariant-loop-rest : goal.invariant-loop-rest
invariant-loop-rest l = list_all (λ name. nat_le (length name) 64) (map bytes_of l.rest) ≡ list_all (λ name. nat_le (length name) 64) (map bytes_of l.names)

abbrev pub decreases-loop-rest : goal.decreases-loop-rest
decreases-loop-rest l = length l.rest
