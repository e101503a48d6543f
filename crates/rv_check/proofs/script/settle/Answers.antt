-- The first delivery that is shown on is due, and where there is none the turn is over.
use Rattle.std.proofs.Common.{◌≡◌, ◌<◌, ◌≤◌, length, sym, ap, subst, ◌∙◌, ℕ, arith, List, true, false, sum}
use Rattle.std.proofs.lemmas.List.Elements.{All-get_or}
use Rattle.std.specs.Prelude.{slice_index}
use Rattle.rv_model.specs.declared.work.Delivery.{Delivery}
use Rattle.rv_model.specs.Setups.{Setup, slot_of}
use Rattle.rv_model.specs.Scripts.{is_enabled_by}
use Rattle.rv_core.specs.Deliveries.{FitsDelivery}
use Rattle.rv_check.specs.inner.Nexts.{work_delivery, no_delivery}
use Rattle.rv_check.proofs.SettleLemmas.{settles-due, settles-none, hidden-first}
use Rattle.rv_check.proofs.script.settle.Goals as goal

fits : (c : goal.Then-is_enabled_by) → FitsDelivery c.args.setup.now c.delivery_at-delivery.result
fits c =
    let d : Delivery = c.delivery_at-delivery.result in
    let lt : c.loop-at.at < length c.args.work.now.deliveries = let a = c.loop-at-test.true in let b = c.requires.in_list in omega arith in
    subst (FitsDelivery c.args.setup.now) (sym (c.delivery_at-delivery.ensures d)) (All-get_or (FitsDelivery c.args.setup.now) c.args.work.now.deliveries c.loop-at.at d lt c.requires.fit)

pub slot-slot-requires-clause-monitor : goal.slot-slot-requires-clause-monitor
slot-slot-requires-clause-monitor c = subst (λ (s : Setup). c.delivery_at-delivery.result.monitor < length s.shape) (sym c.setup.view_is) (fits c).monitor

pub slot-slot-requires-clause-instance : goal.slot-slot-requires-clause-instance
slot-slot-requires-clause-instance c = subst (λ (s : Setup). c.delivery_at-delivery.result.instance < slice_index s.shape c.delivery_at-delivery.result.monitor) (sym c.setup.view_is) (fits c).instance_fits

pub loop-at-preserved : goal.loop-at-preserved
loop-at-preserved c =
    let le : c.args.to ≤ length c.args.work.now.deliveries = c.requires.in_list in
    let hidden : is_enabled_by c.args.look (work_delivery c.args.work.now c.loop-at.at) ≡ false = ap (is_enabled_by c.args.look) (sym (c.delivery_at-delivery.ensures no_delivery)) ∙ sym c.is_enabled_by.ensures ∙ c.if-is_enabled_by.false in
    c.loop-at.invariant ∙ hidden-first c.args.work.now c.args.look c.loop-at.at c.args.to c.loop-at-test.true le hidden

pub returns-then-is_enabled_by : goal.returns-then-is_enabled_by
returns-then-is_enabled_by c =
    let w = c.args.work.now in
    let d : Delivery = c.delivery_at-delivery.result in
    let same : d ≡ work_delivery w c.loop-at.at = c.delivery_at-delivery.ensures no_delivery in
    let enabled : is_enabled_by c.args.look (work_delivery w c.loop-at.at) ≡ true = ap (is_enabled_by c.args.look) (sym same) ∙ sym c.is_enabled_by.ensures ∙ c.if-is_enabled_by.true in
    let shape : c.setup.inside.shape ≡ c.args.setup.now.shape = ap (λ (s : Setup). s.shape) c.setup.view_is in
    let slot_is = c.slot-slot.ensures.slot ∙ ap (λ (z : List ℕ). slot_of z d.monitor d.instance) shape ∙ ap (λ (x : Delivery). slot_of c.args.setup.now.shape x.monitor x.instance) same in
    let range = subst (λ (s : Setup). c.slot-slot.result < sum s.shape) c.setup.view_is c.slot-slot.ensures.range in
    let lt : c.loop-at.at < length w.deliveries = let a = c.loop-at-test.true in let b = c.requires.in_list in omega arith in
    settles-due c.args.setup.now w c.args.look c.args.place c.args.to c.args.turn c.loop-at.at c.loop-at.invariant c.slot-slot.result c.loop-at-test.true c.requires.in_list enabled slot_is range (All-get_or (FitsDelivery c.args.setup.now) w.deliveries c.loop-at.at no_delivery lt c.requires.fit)

pub returns : goal.returns
returns c = settles-none c.args.setup.now c.args.work.now c.args.look c.args.place c.args.to c.args.turn c.loop-at.at c.loop-at.invariant c.loop-at-test.false
