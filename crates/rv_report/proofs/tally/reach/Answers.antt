-- One mark more, which is none.
use Rattle.std.proofs.Common.{Bool, false, List, get_or, ap, ◌∙◌}
use Rattle.rv_report.proofs.WholeLemmas.{push-default}
use Rattle.rv_report.proofs.tally.reach.Goals as goal

pub loop-seen-preserved : goal.loop-seen-preserved
loop-seen-preserved c = λ k. ap (λ (bs : List Bool). get_or bs k false) c.in_ok-push.ensures.items ∙ push-default c.loop-seen.seen.items false k ∙ c.loop-seen.invariant k
