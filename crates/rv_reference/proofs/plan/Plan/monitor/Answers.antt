use Rattle.std.proofs.Common.{List, map, ap, ◌∙◌}
use Rattle.rv_model.specs.Setups.{monitor_of}
use Rattle.rv_reference.specs.declared.monitor.Monitor.{Monitor}
use Rattle.rv_reference.specs.Plans.{slots_in}
use Rattle.rv_reference.proofs.PlanLemmas.{judged-at}
use Rattle.rv_reference.proofs.plan.Plan.monitor.Goals as goal

pub returns-clause-judged : goal.returns-clause-judged
returns-clause-judged c =
    let place = c.monitor_of.ensures.is ∙ ap (λ (ms : List Monitor). monitor_of (map slots_in ms) c.args.slot) c.as_slice.ensures.value in
    judged-at c.args.self.now c.args.slot c.monitor_of.result c.index.result.now place c.requires c.index.ensures
