use Rattle.rv_reference.proofs.PlanLemmas.{answer-is}
use Rattle.rv_reference.proofs.plan.Plan.answer_at.Goals as goal

pub returns-in-Deliver : goal.returns-in-Deliver
returns-in-Deliver c = answer-is c.args.self.now c.monitor.result.now c.args.before.now c.args.entry c.in-Deliver.slot c.in-Deliver.hit c.answer.result c.in-Deliver.is c.monitor.ensures.judged c.monitor.ensures.started c.answer.ensures
