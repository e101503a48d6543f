-- One tally more, which is empty.
use Rattle.std.proofs.Common.{List, ap, ◌∙◌}
use Rattle.rv_report.specs.declared.tally.Tally.{Tally}
use Rattle.rv_report.specs.Tallies.{tally_at}
use Rattle.rv_report.proofs.WholeLemmas.{reach-more}
use Rattle.rv_report.proofs.digest.reach.Goals as goal

pub loop-alloc-preserved : goal.loop-alloc-preserved
loop-alloc-preserved c = λ k. ap (λ (ts : List Tally). tally_at ts k) c.in_ok-push.ensures.items ∙ reach-more c.loop-alloc.tallies.items c.in_ok-new.field-0 c.in_ok-new.ensures k ∙ c.loop-alloc.invariant k
