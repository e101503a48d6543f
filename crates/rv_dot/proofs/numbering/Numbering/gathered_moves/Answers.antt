use Rattle.rv_dot.specs.Moves.{moves_of}
use Rattle.rv_dot.specs.inner.Numberings.{states_by, events_by}
use Rattle.rv_dot.proofs.MoveSets.{moves_more}
use Rattle.rv_dot.proofs.numbering.Numbering.gathered_moves.Goals as goal

pub arcs-init : goal.arcs-init
unfolding moves_of
arcs-init c = c.new-set.ensures.empty

pub arcs-preserved : goal.arcs-preserved
arcs-preserved c = moves_more (states_by c.args.self.now) (events_by c.args.self.now) c.args.arcs.now c.arcs.arc-index _ c.arc_move.result c.arcs.set.keys c.insert.new.self.keys c.arcs-test.true c.arcs.invariant c.arc_move.ensures c.in_ok-insert.ensures.keys
