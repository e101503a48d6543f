-- An instance after instances.
use Rattle.std.proofs.Common.{◌≡◌, ◌++◌, ◌∷◌, [], ℕ, List, sym, ap, ◌∙◌, subst}
use Rattle.rv_model.specs.declared.entry.Act.TheVariants.{Clear}
use Rattle.rv_model.specs.Setups.{slot_of}
use Rattle.rv_feed.specs.Changes.{DoesAll}
use Rattle.rv_feed.specs.inner.Clearing.{of_instances}
use Rattle.rv_feed.proofs.ChangeLemmas.{does-none, does-one, does-then}
use Rattle.rv_feed.proofs.ClearLemmas.{no-instance, one-instance}
use Rattle.rv_feed.proofs.changer.clear_monitor.Goals as goal

pub loop-instance-init : goal.loop-instance-init
loop-instance-init c = subst (DoesAll c.args.seat.now c.args.seat.now) (sym (no-instance c.args.board.now.setup.shape c.args.monitor)) (does-none c.args.seat.now c.number.ensures.sound)

pub loop-instance-preserved : goal.loop-instance-preserved
loop-instance-preserved c =
    let shape : List ℕ = c.args.board.now.setup.shape in
    let monitor : ℕ = c.args.monitor in
    let instance : ℕ = c.loop-instance.instance in
    let old = c.args.seat.now in
    let slot : c.slot-slot.result ≡ slot_of shape monitor instance = c.slot-slot.ensures.slot ∙ ap (λ (s : List ℕ). slot_of s monitor instance) c.shape-in-loop-instance.ensures in
    let one = does-one c.loop-instance.seat c.clear.new.seat (Clear c.slot-slot.result) c.clear.ensures in
    let all = does-then old c.loop-instance.seat c.clear.new.seat (of_instances shape monitor instance) (Clear c.slot-slot.result ∷ []) c.loop-instance.invariant one in
    subst (DoesAll old c.clear.new.seat) (ap (λ (s : ℕ). of_instances shape monitor instance ++ Clear s ∷ []) slot ∙ sym (one-instance shape monitor instance)) all
