use Rattle.std.proofs.Common.{◌≡◌, ◌+◌, ℕ, sum, take, ◌∙◌, ap, arith}
use Rattle.std.proofs.lemmas.List.{get_or_default}
use Rattle.rv_model.specs.Setups.{monitor_of}
use Rattle.rv_slots.specs.Shapes.{AreBases}
use Rattle.rv_slots.proofs.ShapeLemmas.{monitor_of-slot_of}
use Rattle.rv_slots.proofs.shape.Shape.slot.Goals as goal

pub returns-clause-monitor : goal.returns-clause-monitor
returns-clause-monitor c =
    let shape = c.args.self.now in
    let monitor = c.args.monitor in
    let are : AreBases shape c.self.inside.bases.items = rw (← c.self.view_is) c.self.invariant.2 in
    let same = get_or_default c.self.inside.bases.items monitor c.index.result.now 0 (omega (arith, are.0, c.requires.monitor)) in
    let base : c.index.result.now ≡ sum (take monitor shape) = c.index.ensures ∙ same ∙ are.1 monitor (omega (arith, c.requires.monitor)) in
    ap (λ (b : ℕ). monitor_of shape (b + c.args.instance)) base ∙ monitor_of-slot_of shape monitor c.args.instance c.requires.monitor c.requires.instance
