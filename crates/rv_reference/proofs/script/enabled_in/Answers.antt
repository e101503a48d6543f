use Rattle.std.proofs.Common.{sym, ◌∙◌}
use Rattle.rv_model.specs.Scripts.{is_enabled_by}
use Rattle.rv_reference.proofs.ListLemmas.{filter_yes, filter_no}
use Rattle.rv_reference.proofs.script.enabled_in.Goals.{then-is_enabled_by+in_ok-push, else-is_enabled_by}
use Rattle.rv_reference.proofs.script.enabled_in.Goals as goal

pub loop-delivery-preserved : goal.loop-delivery-preserved
loop-delivery-preserved c =
    elim c.if-is_enabled_by.branch [
      | then-is_enabled_by+in_ok-push w ↦ rw (w.shown-is, w.in_ok-push.ensures.items) (filter_yes (is_enabled_by c.args.look) c.args.deliveries.now c.loop-delivery.delivery-index _ c.loop-delivery.shown.items c.loop-delivery-test.true (sym c.is_enabled_by.ensures ∙ w.if-is_enabled_by.true) c.loop-delivery.invariant)
      | else-is_enabled_by w ↦ rw w.shown-is (filter_no (is_enabled_by c.args.look) c.args.deliveries.now c.loop-delivery.delivery-index _ c.loop-delivery.shown.items c.loop-delivery-test.true (sym c.is_enabled_by.ensures ∙ w.if-is_enabled_by.false) c.loop-delivery.invariant)
    ]
