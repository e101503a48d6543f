use Rattle.std.proofs.Common.{sym, ◌∙◌}
use Rattle.rv_model.specs.Records.{is_delivery}
use Rattle.rv_reference.proofs.ListLemmas.{filter_yes, filter_no}
use Rattle.rv_reference.proofs.script.made_in.Goals.{then-is_delivery+in_ok-push, else-is_delivery}
use Rattle.rv_reference.proofs.script.made_in.Goals as goal

pub loop-played-preserved : goal.loop-played-preserved
loop-played-preserved c =
    elim c.if-is_delivery.branch [
      | then-is_delivery+in_ok-push w ↦ rw (w.made-is, w.in_ok-push.ensures.items) (filter_yes is_delivery c.args.script.now c.loop-played.played-index _ c.loop-played.made.items c.loop-played-test.true (sym c.is_delivery.ensures ∙ w.if-is_delivery.true) c.loop-played.invariant)
      | else-is_delivery w ↦ rw w.made-is (filter_no is_delivery c.args.script.now c.loop-played.played-index _ c.loop-played.made.items c.loop-played-test.true (sym c.is_delivery.ensures ∙ w.if-is_delivery.false) c.loop-played.invariant)
    ]
