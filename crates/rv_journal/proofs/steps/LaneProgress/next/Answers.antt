-- A turn opens where the next one begins here; else an item comes, or the lane is at its end.
use Rattle.std.proofs.Common.{arith, sym, ap, ◌∙◌, subst, ◌+◌}
use Rattle.rv_model.specs.declared.work.Turn.{Turn}
use Rattle.rv_journal.specs.declared.counted.Counted.{Counted}
use Rattle.rv_journal.specs.declared.steps.MergeStep.TheVariants.{Item}
use Rattle.rv_journal.specs.inner.MergeSteps.{GoesTo}
use Rattle.rv_journal.proofs.MergeStepLemmas.{NoTurn, no-turn_left, no-turn_yet, opens-next, end-next, item-next}
use Rattle.rv_journal.proofs.steps.LaneProgress.next.Goals as goal
use Rattle.rv_journal.proofs.steps.LaneProgress.next.Goals.{then-self-turn_count+else-turn_at-self, else-self-turn_count}

pub returns-then-turn_at-self : goal.returns-then-turn_at-self
returns-then-turn_at-self c =
    opens-next c.args.lane.now c.args.self.now c.turn_at.result c.requires (let h = c.if-self-turn_count.true in let n = c.turn_count.ensures in omega arith)
    (ap (λ (t : Turn). t.from) (sym (c.turn_at.ensures c.turn_at.result)) ∙ c.if-turn_at-self.true)

pub returns-then-self-item_count : goal.returns-then-self-item_count
returns-then-self-item_count c =
    let none : NoTurn c.args.lane.now c.args.self.now = elim c.if-self-turn_count.branch [
      | then-self-turn_count+else-turn_at-self w ↦
          no-turn_yet c.args.lane.now c.args.self.now w.turn_at.result (let h = w.if-self-turn_count.true in let n = c.turn_count.ensures in omega arith)
          (λ same. w.if-turn_at-self.false (ap (λ (t : Turn). t.from) (w.turn_at.ensures w.turn_at.result) ∙ same))
      | else-self-turn_count w ↦ no-turn_left c.args.lane.now c.args.self.now (let h = w.if-self-turn_count.false in let n = c.turn_count.ensures in omega arith)
    ] in
    end-next c.args.lane.now c.args.self.now c.requires none (let h = c.if-self-item_count.true in let n = c.item_count.ensures in omega arith)

pub returns : goal.returns
returns c =
    let none : NoTurn c.args.lane.now c.args.self.now = elim c.if-self-turn_count.branch [
      | then-self-turn_count+else-turn_at-self w ↦
          no-turn_yet c.args.lane.now c.args.self.now w.turn_at.result (let h = w.if-self-turn_count.true in let n = c.turn_count.ensures in omega arith)
          (λ same. w.if-turn_at-self.false (ap (λ (t : Turn). t.from) (w.turn_at.ensures w.turn_at.result) ∙ same))
      | else-self-turn_count w ↦ no-turn_left c.args.lane.now c.args.self.now (let h = w.if-self-turn_count.false in let n = c.turn_count.ensures in omega arith)
    ] in
    let goes = item-next c.args.lane.now c.args.self.now c.item_at.result c.requires none (let h = c.if-self-item_count.false in let n = c.item_count.ensures in omega arith) in
    subst (λ (x : Counted). GoesTo c.args.lane.now c.args.self.now (Item x) (record { turns = c.args.self.now.turns; items = c.args.self.now.items + 1 })) (sym (c.item_at.ensures c.item_at.result)) goes
