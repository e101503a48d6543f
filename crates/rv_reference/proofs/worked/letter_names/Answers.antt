use Rattle.std.proofs.Common.{◌∙◌}
use Rattle.rv_reference.proofs.WellFormedLemmas.{names-none, names-more}
use Rattle.rv_reference.proofs.worked.letter_names.Goals as goal

pub loop-k-init : goal.loop-k-init
loop-k-init c = c.new-names.ensures ∙ names-none

pub loop-k-preserved : goal.loop-k-preserved
loop-k-preserved c = let more = names-more c.loop-k.k in let kept = c.loop-k.invariant in let named = c.in_ok-new.ensures in let pushed = c.in_ok-push.ensures.ok in cc
