-- A delivery is one step, and so is an end.
use Rattle.std.proofs.Common.{◌≡◌, true, false, List, ℕ, ◌+◌, ◌<◌, sum, sym, ap, ◌∙◌, subst}
use Rattle.rv_model.specs.Scripts.{hit_act}
use Rattle.rv_model.specs.Setups.{slot_of, monitor_of}
use Rattle.rv_core.specs.Advance.{FitsHit}
use Rattle.rv_core.specs.Setup.{table_at}
use Rattle.rv_feed.proofs.ActLemmas.{act-of, fits-delivered}
use Rattle.rv_feed.proofs.DoneLemmas.{did-serve}
use Rattle.rv_feed.proofs.player.serve_hit.Goals as goal

pub step-requires : goal.step-requires
step-requires c = subst (λ (shape : List ℕ). c.slot-slot.result < sum shape) c.shape.ensures c.slot-slot.ensures.range

pub deliver-requires-clause-fits : goal.deliver-requires-clause-fits
deliver-requires-clause-fits c =
    let s = c.args.core.now.setup in
    let hit = c.args.hit.now in
    let slot = c.slot-slot.ensures.slot ∙ ap (λ (shape : List ℕ). slot_of shape c.args.monitor c.args.instance) c.shape.ensures in (
      subst (λ (shape : List ℕ). c.slot-slot.result < sum shape) c.shape.ensures c.slot-slot.ensures.range,
      fits-delivered s c.slot-slot.result hit (sym c.is_end.ensures ∙ c.if-is_end.false) (subst (λ (n : ℕ). FitsHit (table_at s n) hit) (sym slot) c.requires.hit),
    )

pub deliver-requires-clause-monitor : goal.deliver-requires-clause-monitor
deliver-requires-clause-monitor c = subst (λ (shape : List ℕ). c.args.monitor ≡ monitor_of shape c.slot-slot.result) c.shape.ensures (sym c.slot-slot.ensures.monitor)

pub returns-then-is_end : goal.returns-then-is_end
returns-then-is_end c = λ order.
    let hit = c.args.hit.now in
    did-serve (2 + c.args.cpu) c.step.ensures
    (act-of c.slot-slot.result hit true (sym c.is_end.ensures ∙ c.if-is_end.true) ∙ ap (λ (n : ℕ). hit_act n hit) (c.slot-slot.ensures.slot ∙ ap (λ (shape : List ℕ). slot_of shape c.args.monitor c.args.instance) c.shape.ensures))

pub returns : goal.returns
returns c = λ order.
    let hit = c.args.hit.now in
    did-serve (2 + c.args.cpu) c.deliver.ensures
    (act-of c.slot-slot.result hit false (sym c.is_end.ensures ∙ c.if-is_end.false) ∙ ap (λ (n : ℕ). hit_act n hit) (c.slot-slot.ensures.slot ∙ ap (λ (shape : List ℕ). slot_of shape c.args.monitor c.args.instance) c.shape.ensures))
