use Rattle.std.proofs.Common.{◌≡◌, map, take}
use Rattle.rv_dot.specs.inner.Held.{arc}
use Rattle.rv_dot.specs.inner.Numberings.{states_by, events_by}
use Rattle.rv_dot.specs.Moves.{moves_of, arc_move}
use Rattle.rv_dot.proofs.numbering.Numbering.gathered_moves.Given as goal

abbrev pub invariant-arcs : goal.invariant-arcs
invariant-arcs l = l.set.keys ≡ moves_of (map (arc_move (states_by l.self) (events_by l.self)) (map arc (take l.arc-index l.arcs)))
