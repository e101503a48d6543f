-- One place more.
use Rattle.std.proofs.Common.{sym, ◌∙◌}
use Rattle.rv_report.proofs.MarkLemmas.{marked-yes, marked-no}
use Rattle.rv_report.proofs.tally.mark_all.Goals.{then-others-place, else-others-place}
use Rattle.rv_report.proofs.tally.mark_all.Goals as goal

pub loop-place-preserved : goal.loop-place-preserved
loop-place-preserved c =
    elim c.if-others-place.branch [
      | then-others-place w ↦ rw w.seen-is (marked-yes c.args.others.now c.args.seen.now.items c.loop-place.seen.items c.loop-place.place c.loop-place.invariant _ w.if-others-place.true w.mark.ensures.many w.mark.ensures.marked)
      | else-others-place w ↦ rw w.seen-is (marked-no c.args.others.now c.args.seen.now.items c.loop-place.seen.items c.loop-place.place c.loop-place.invariant w.if-others-place.false)
    ]
