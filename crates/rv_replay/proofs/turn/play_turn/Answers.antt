-- A look, and the deliveries that it enables.
use Rattle.std.proofs.Common.{◌≡◌, ◌<◌, ℕ, List, sum, sym, ap, ◌∙◌, subst, arith}
use Rattle.rv_core.specs.Core.{CoreValue}
use Rattle.rv_model.specs.declared.work.Delivery.{Delivery}
use Rattle.rv_model.specs.Setups.{monitor_of, slot_of}
use Rattle.rv_replay.proofs.ListedLemmas.{listed-of, listed-start, listed-off, listed-all, listed-hidden, listed-shown, listed-last}
use Rattle.rv_replay.proofs.ObserveLemmas.{fits-at, fits-hit, fits-shape, record-again, serves-hit}
use Rattle.rv_replay.proofs.turn.play_turn.Goals as goal
use Rattle.rv_replay.proofs.turn.play_turn.Goals.{then-is_enabled_by+in_ok-observe+else-ends_script, else-is_enabled_by}

pub loop-place-init : goal.loop-place-init
loop-place-init g c = listed-start (g.met.O.Observer.passes c.args.context.now) c.look-word.ensures

pub serve_hit-outcome-requires-clause-monitor : goal.serve_hit-outcome-requires-clause-monitor
serve_hit-outcome-requires-clause-monitor g c =
    (fits-at c.args.list.now c.loop-place.invariant.same_setup c.requires.fit c.loop-place-test.true c.requires.in_list c.delivery-delivery.ensures.is).monitor

pub serve_hit-outcome-requires-clause-instance : goal.serve_hit-outcome-requires-clause-instance
serve_hit-outcome-requires-clause-instance g c =
    (fits-at c.args.list.now c.loop-place.invariant.same_setup c.requires.fit c.loop-place-test.true c.requires.in_list c.delivery-delivery.ensures.is).instance_fits

pub serve_hit-outcome-requires-clause-hit : goal.serve_hit-outcome-requires-clause-hit
serve_hit-outcome-requires-clause-hit g c =
    fits-hit c.args.list.now c.loop-place.place
    (fits-at c.args.list.now c.loop-place.invariant.same_setup c.requires.fit c.loop-place-test.true c.requires.in_list c.delivery-delivery.ensures.is)
    c.delivery-delivery.ensures.is c.hit.ensures

pub slot-slot-requires-clause-monitor : goal.slot-slot-requires-clause-monitor
slot-slot-requires-clause-monitor g c =
    (fits-shape (fits-at c.args.list.now c.loop-place.invariant.same_setup c.requires.fit c.loop-place-test.true c.requires.in_list c.delivery-delivery.ensures.is) c.shape.ensures).0

pub slot-slot-requires-clause-instance : goal.slot-slot-requires-clause-instance
slot-slot-requires-clause-instance g c =
    (fits-shape (fits-at c.args.list.now c.loop-place.invariant.same_setup c.requires.fit c.loop-place-test.true c.requires.in_list c.delivery-delivery.ensures.is) c.shape.ensures).1

pub observe-requires : goal.observe-requires
observe-requires g c =
    let same = ap (λ (core : CoreValue). core.setup.shape) (c.serve_hit-outcome.ensures 0).did.grows in
    subst (λ (shape : List ℕ). c.slot-slot.result < sum shape) (c.shape.ensures ∙ sym same) c.slot-slot.ensures.range

pub loop-place-preserved : goal.loop-place-preserved
loop-place-preserved g c =
    let d : Delivery = c.delivery-delivery.result in
    let delivery = c.delivery-delivery.ensures in
    elim c.if-is_enabled_by.branch [
      | then-is_enabled_by+in_ok-observe+else-ends_script w ↦ rw (w.core-is, w.observer-is)
          (listed-shown c.loop-place.auto.place c.loop-place-test.true c.requires.in_list delivery.is delivery.order c.loop-place.invariant (sym c.is_enabled_by.ensures ∙ w.if-is_enabled_by.true)
          (serves-hit c.args.list.now c.loop-place.place delivery.is w.hit.ensures w.serve_hit-outcome.ensures)
          (λ x. record-again c.args.list.now c.loop-place.place delivery.is w.delivery-again.ensures.is (c.line-line.ensures x) w.has_bit-then-is_enabled_by.ensures w.record_on-record.ensures)
          (w.slot-slot.ensures.slot ∙ ap (λ (shape : List ℕ). slot_of shape d.monitor d.instance) w.shape.ensures)
          (ap (λ (shape : List ℕ). monitor_of shape w.slot-slot.result) (sym w.shape.ensures) ∙ w.slot-slot.ensures.monitor)
          w.phase-before.ensures w.in_ok-observe.ensures (sym w.ends_script.ensures ∙ w.if-ends_script.false))
      | else-is_enabled_by w ↦ rw (w.core-is, w.observer-is)
          (listed-hidden c.loop-place.auto.place c.loop-place-test.true c.requires.in_list delivery.is delivery.order c.loop-place.invariant (sym c.is_enabled_by.ensures ∙ w.if-is_enabled_by.false))
    ]

pub returns-then-has_bit : goal.returns-then-has_bit
returns-then-has_bit g c = λ x. listed-of (c.cpu-cpu.ensures x) (listed-off (g.met.O.Observer.passes c.args.context.now) c.requires.some c.look-word.ensures (sym c.has_bit.ensures ∙ c.if-has_bit.true))

pub returns-then-ends_script : goal.returns-then-ends_script
returns-then-ends_script g c = λ x.
    let d : Delivery = c.delivery-delivery.result in
    let delivery = c.delivery-delivery.ensures in
    listed-of (c.cpu-cpu.ensures x)
    (listed-last c.loop-place.auto.place c.loop-place-test.true c.requires.in_list delivery.is delivery.order c.loop-place.invariant (sym c.is_enabled_by.ensures ∙ c.if-is_enabled_by.true)
    (serves-hit c.args.list.now c.loop-place.place delivery.is c.hit.ensures c.serve_hit-outcome.ensures)
    (λ y. record-again c.args.list.now c.loop-place.place delivery.is c.delivery-again.ensures.is (c.line-line.ensures y) c.has_bit-then-is_enabled_by.ensures c.record_on-record.ensures)
    (c.slot-slot.ensures.slot ∙ ap (λ (shape : List ℕ). slot_of shape d.monitor d.instance) c.shape.ensures)
    (ap (λ (shape : List ℕ). monitor_of shape c.slot-slot.result) (sym c.shape.ensures) ∙ c.slot-slot.ensures.monitor)
    c.phase-before.ensures c.in_ok-observe.ensures
    (g.met.O.Observer.passes c.args.context.now) (sym c.has_bit.ensures ∙ c.if-has_bit.false) (sym c.ends_script.ensures ∙ c.if-ends_script.true) c.halt.ensures)

pub returns : goal.returns
returns g c = λ x.
    let end : c.loop-place.place ≡ c.args.to = let a = c.loop-place.auto.place-end (let s = c.requires.some in omega arith) in let b = c.loop-place-test.false in omega arith in
    listed-of (c.cpu-cpu.ensures x) (listed-all end (sym c.has_bit.ensures ∙ c.if-has_bit.false) c.loop-place.invariant)
