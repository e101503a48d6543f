use Rattle.std.proofs.Common.{◌≡◌, length, map}
use Rattle.std.specs.List.{list_all}
use Rattle.rv_dot.specs.inner.Held.{arc}
use Rattle.rv_dot.specs.inner.Numberings.{states_by}
use Rattle.rv_dot.specs.Dot.{ends_declared}
use Rattle.rv_dot.proofs.numbering.Numbering.are_declared.Given as goal

abbrev pub invariant-loop-rest : goal.invariant-loop-rest
invariant-loop-rest l = list_all (ends_declared (states_by l.self)) (map arc l.rest) ≡ list_all (ends_declared (states_by l.self)) (map arc l.arcs)

abbrev pub decreases-loop-rest : goal.decreases-loop-rest
decreases-loop-rest l = length l.rest
