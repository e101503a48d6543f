use Rattle.std.proofs.Common.{◌≡◌, ◌++◌, ℕ, List, length}
use Rattle.rv_io.specs.Taken.{Takes}
use Rattle.rv_io.proofs.sink.put_all.Given as goal

abbrev pub invariant-loop-rest : goal.invariant-loop-rest
invariant-loop-rest g l = (g.K.Sink.faults l.out ≡ g.K.Sink.faults l.initial.out) × (front : List ℕ) × (front ++ l.rest ≡ l.bytes) × Takes (g.K.Sink.taken l.initial.out) (g.K.Sink.taken l.out) front

abbrev pub decreases-loop-rest : goal.decreases-loop-rest
decreases-loop-rest g l = length l.rest
