use Rattle.std.proofs.Common.{◌≡◌, ◌++◌, ◌≤◌, List, Bool, [], ◌∷◌, ◌∙◌, ap, cond, length, length-append, arith}
use Rattle.rv_model.specs.declared.record.Task.{Task}
use Rattle.rv_slots.specs.declared.tasks.TheConstants.{MAX_TASKS}
use Rattle.rv_slots.specs.Tasks.{is_held, with_task}
use Rattle.rv_slots.proofs.TaskLemmas.{are-tasks}
use Rattle.rv_slots.proofs.tasks.Tasks.put.Goals as goal

pub invariant_of-self-2 : goal.invariant_of-self-2
invariant_of-self-2 c =
    let tasks = c.self.inside.set.keys in
    let same : tasks ≡ c.args.self.now = c.self.view_is ∙ c.make_room.ensures in
    let new = ap (λ (xs : List Task). is_held xs c.args.task) same ∙ c.requires.new in
    let keys : c.insert.new.self.keys ≡ with_task tasks c.args.task = c.in_ok-insert.ensures.keys in
    let grown : c.insert.new.self.keys ≡ tasks ++ c.args.task ∷ [] = keys ∙ ap (λ (b : Bool). cond b tasks (tasks ++ c.args.task ∷ [])) new in
    let few : length (tasks ++ c.args.task ∷ []) ≤ MAX_TASKS = grind (arith, c.requires.few, ap length same, length-append tasks (c.args.task ∷ [])) in
    rw grown (few, are-tasks tasks c.args.task c.self.invariant.1 c.requires.task)
