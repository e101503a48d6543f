use Rattle.std.proofs.Common.{◌≡◌, List, Some, ◌∙◌, sym, subst, position}
use Rattle.std.specs.List.{IsDistinct}
use Rattle.rv_model.specs.declared.record.Task.{Task}
use Rattle.rv_slots.specs.Tasks.{same_task}
use Rattle.rv_slots.proofs.TaskLemmas.{position-at, stands-here}
use Rattle.rv_slots.proofs.tasks.Tasks.is_numbered.Goals as goal

pub returns-clause-first : goal.returns-clause-first
returns-clause-first c same =
    let tasks = c.as_slice-tasks.result.now in
    let distinct : IsDistinct same_task tasks = subst (IsDistinct same_task) (sym c.as_slice-tasks.ensures.keys) c.as_slice-tasks.ensures.unique in
    let here = stands-here tasks c.args.number c.args.task _ c.if-number-tasks.false (sym c.eq.ensures ∙ same) in
    subst (λ (xs : List Task). position (same_task c.args.task) xs ≡ Some c.args.number) (c.as_slice-tasks.ensures.keys ∙ c.self.view_is) (position-at tasks distinct c.args.task c.args.number here)
