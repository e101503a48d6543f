-- The marks so far.
use Rattle.rv_report.proofs.MarkLemmas.{MarkedSoFar}
use Rattle.rv_report.proofs.tally.mark_all.Given as goal

abbrev pub invariant-loop-place : goal.invariant-loop-place
invariant-loop-place l = MarkedSoFar l.others l.fn.seen.items l.seen.items l.place
