-- A monitor after monitors.
use Rattle.std.proofs.Common.{ℕ, List, sym, ◌∙◌, subst, slice_index}
use Rattle.rv_feed.specs.Changes.{DoesAll}
use Rattle.rv_feed.specs.inner.Clearing.{of_instances}
use Rattle.rv_feed.proofs.ChangeLemmas.{does-none, does-then}
use Rattle.rv_feed.proofs.ClearLemmas.{of_monitors, no-monitor, monitor-on, monitor-off}
use Rattle.rv_feed.proofs.changer.clear.Goals as goal
use Rattle.rv_feed.proofs.changer.clear.Goals.{then-has_bit, else-has_bit}

pub loop-monitor-init : goal.loop-monitor-init
loop-monitor-init c = subst (DoesAll c.args.seat.now c.args.seat.now) (sym (no-monitor c.args.board.now.setup.shape c.args.set)) (does-none c.args.seat.now c.number.ensures.sound)

pub loop-monitor-preserved : goal.loop-monitor-preserved
loop-monitor-preserved c =
    let shape : List ℕ = c.args.board.now.setup.shape in
    let set : ℕ = c.args.set in
    let monitor : ℕ = c.loop-monitor.monitor in
    let old = c.args.seat.now in
    elim c.if-has_bit.branch [
      | then-has_bit w ↦
          let all = does-then old c.loop-monitor.seat w.clear_monitor.new.seat (of_monitors shape set monitor) (of_instances shape monitor (slice_index shape monitor)) c.loop-monitor.invariant w.clear_monitor.ensures in
          rw w.seat-is (subst (DoesAll old w.clear_monitor.new.seat) (sym (monitor-on shape set monitor (sym c.has_bit.ensures ∙ w.if-has_bit.true))) all)
      | else-has_bit w ↦ rw w.seat-is (subst (DoesAll old c.loop-monitor.seat) (sym (monitor-off shape set monitor (sym c.has_bit.ensures ∙ w.if-has_bit.false))) c.loop-monitor.invariant)
    ]
