use Rattle.rv_dot.proofs.Gathering.{event_more}
use Rattle.rv_dot.proofs.reading.events.Goals as goal

pub arcs-preserved : goal.arcs-preserved
arcs-preserved c = event_more c.args.arcs.now c.arcs.one-index _ c.arcs.found.items c.push.new.self.items c.arcs-test.true c.arcs.invariant c.in_ok-push.ensures.items
