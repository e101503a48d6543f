use Rattle.std.proofs.Common.{sym, ◌∙◌}
use Rattle.rv_control.proofs.TextLemmas.{monitors_in-none, monitors_in-yes, monitors_in-no}
use Rattle.rv_control.proofs.control.Control.list_held.Goals.{then-belongs_to+in_ok-push, else-belongs_to}
use Rattle.rv_control.proofs.control.Control.list_held.Goals as goal

pub loop-place-init : goal.loop-place-init
loop-place-init c = monitors_in-none c.args.self.now c.args.container c.args.listed.now.items

pub loop-place-preserved : goal.loop-place-preserved
loop-place-preserved c =
    elim c.if-belongs_to.branch [
      | then-belongs_to+in_ok-push w ↦ rw (w.listed-is, w.in_ok-push.ensures.items) (monitors_in-yes c.args.self.now c.args.container c.loop-place.place c.args.listed.now.items c.loop-place.listed.items (sym c.belongs_to.ensures ∙ w.if-belongs_to.true) c.loop-place.invariant)
      | else-belongs_to w ↦ rw w.listed-is (monitors_in-no c.args.self.now c.args.container c.loop-place.place c.args.listed.now.items c.loop-place.listed.items (sym c.belongs_to.ensures ∙ w.if-belongs_to.false) c.loop-place.invariant)
    ]
