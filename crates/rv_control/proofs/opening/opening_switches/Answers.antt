use Rattle.std.proofs.Common.{true, false, sym, ◌∙◌, arith}
use Rattle.rv_control.specs.Opening.{enables}
use Rattle.rv_control.proofs.SetLemmas.{set-none, set-more}
use Rattle.rv_control.proofs.opening.opening_switches.Goals.{then-enables, else-enables}
use Rattle.rv_control.proofs.opening.opening_switches.Goals as goal

pub loop-place-init : goal.loop-place-init
loop-place-init c = set-none (enables c.args.monitors.now)

pub loop-place-preserved : goal.loop-place-preserved
loop-place-preserved c =
    let more = set-more (enables c.args.monitors.now) c.loop-place.place c.loop-place.switches c.loop-place.bit c.if-enables.switches in
    elim c.if-enables.branch [
      | then-enables w ↦ more true c.loop-place.invariant (omega arith) (sym c.enables.ensures ∙ w.if-enables.true) w.switches-is
      | else-enables w ↦ more false c.loop-place.invariant (omega arith) (sym c.enables.ensures ∙ w.if-enables.false) (let e = w.switches-is in omega arith)
    ]
