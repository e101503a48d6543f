use Rattle.std.proofs.Common.{true, false, sym, ◌∙◌, arith}
use Rattle.rv_control.specs.Sets.{is_chosen}
use Rattle.rv_control.proofs.SetLemmas.{set-none, set-more}
use Rattle.rv_control.proofs.control.Control.set.Goals.{then-is_chosen, else-is_chosen}
use Rattle.rv_control.proofs.control.Control.set.Goals as goal

pub loop-place-init : goal.loop-place-init
loop-place-init c = set-none (is_chosen c.args.self.now c.args.item c.args.those)

pub loop-place-preserved : goal.loop-place-preserved
loop-place-preserved c =
    let more = set-more (is_chosen c.args.self.now c.args.item c.args.those) c.loop-place.place c.loop-place.set c.loop-place.bit c.if-is_chosen.set in
    elim c.if-is_chosen.branch [
      | then-is_chosen w ↦ more true c.loop-place.invariant (omega arith) (sym c.is_chosen.ensures ∙ w.if-is_chosen.true) w.set-is
      | else-is_chosen w ↦ more false c.loop-place.invariant (omega arith) (sym c.is_chosen.ensures ∙ w.if-is_chosen.false) (let e = w.set-is in omega arith)
    ]
