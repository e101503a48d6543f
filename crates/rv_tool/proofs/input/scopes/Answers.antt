use Rattle.rv_tool.proofs.PreparedLemmas.{one_more, all_made}
use Rattle.rv_tool.proofs.input.scopes.Goals as goal

pub loop-monitor-preserved : goal.loop-monitor-preserved
loop-monitor-preserved c =
    one_more (λ m. m.scope) c.args.monitors.now c.loop-monitor.monitor-index c.monitor-item.result c.loop-monitor.scopes.items c.push.new.self.items c.loop-monitor-test.true c.monitor-item.is c.loop-monitor.invariant c.in_ok-push.ensures.items

pub returns : goal.returns
returns c = all_made (λ m. m.scope) c.args.monitors.now c.loop-monitor.monitor-index c.loop-monitor.scopes.items c.loop-monitor-test.false c.loop-monitor.invariant
