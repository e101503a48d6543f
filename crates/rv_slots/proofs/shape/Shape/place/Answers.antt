use Rattle.std.proofs.Common.{sym}
use Rattle.rv_slots.proofs.ShapeLemmas.{monitor_of-between}
use Rattle.rv_slots.proofs.shape.Shape.place.Goals as goal

pub returns-clause-monitor : goal.returns-clause-monitor
returns-clause-monitor c = sym (monitor_of-between c.args.self.now c.monitor-monitor.result c.args.slot c.monitor-monitor.ensures.monitors c.monitor-monitor.ensures.first c.monitor-monitor.ensures.last)
