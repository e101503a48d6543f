use Rattle.std.proofs.Common.{true, false, sym, ◌∙◌, arith}
use Rattle.rv_control.proofs.SetLemmas.{set-none, set-more}
use Rattle.rv_feed.specs.Lane.{panics_of}
use Rattle.rv_tool.proofs.check.panic_bits.Goals.{then-is_panic, else-is_panic}
use Rattle.rv_tool.proofs.check.panic_bits.Goals as goal

pub loop-place-init : goal.loop-place-init
loop-place-init c = set-none (panics_of c.args.reactors.now)

pub loop-place-preserved : goal.loop-place-preserved
loop-place-preserved c =
    let more = set-more (panics_of c.args.reactors.now) c.loop-place.place c.loop-place.bits c.loop-place.bit c.if-is_panic.bits in
    elim c.if-is_panic.branch [
      | then-is_panic w ↦ more true c.loop-place.invariant (omega arith) (sym c.is_panic.ensures ∙ w.if-is_panic.true) w.bits-is
      | else-is_panic w ↦ more false c.loop-place.invariant (omega arith) (sym c.is_panic.ensures ∙ w.if-is_panic.false) (let e = w.bits-is in omega arith)
    ]
