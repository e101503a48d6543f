use Rattle.std.proofs.Common.{◌≡◌, ◌++◌, ℕ, Bool, [], ◌∷◌, Ok, Err, cond, true, false, sym, ◌∙◌, ap, subst}
use Rattle.std.proofs.lemmas.Bool.{false≢true}
use Rattle.rv_slots.specs.declared.tasks.TaskFault.{TaskFault}
use Rattle.rv_slots.specs.Tasks.{task_of, is_held, task_number, IsTask}
use Rattle.rv_slots.proofs.TaskLemmas.{held-at, number-found, number-next, stands-at, stands-last, task_of-IsTask}
use Rattle.rv_slots.proofs.tasks.Tasks.number.Goals as goal

ok_err : (n : ℕ) (e : TaskFault) → Ok n ≡ Err e → ⊥
ok_err n e is = cc

-- the task whose number was guessed
guessed : (c : goal.Then-is_numbered) → is_held c.args.self.now (task_of c.args.pid c.args.cpu) ≡ true
guessed c = ap (is_held c.args.self.now) (sym c.task_of-task.ensures) ∙ held-at c.args.self.now c.task_of-task.result c.guess-guess.result (c.is_numbered.ensures.holds.0 c.if-is_numbered.true)

pub returns-then-is_numbered-clause-number : goal.returns-then-is_numbered-clause-number
returns-then-is_numbered-clause-number c =
    number-found _ c.args.self.now c.guess-guess.result (sym (c.is_numbered.ensures.first c.if-is_numbered.true)) ∙ ap (task_number c.args.self.now) c.task_of-task.ensures

pub returns-then-is_numbered-clause-grown : goal.returns-then-is_numbered-clause-grown
returns-then-is_numbered-clause-grown c =
    let old = c.args.self.now in
    ap (λ (b : Bool). cond b old (old ++ task_of c.args.pid c.args.cpu ∷ [])) (sym (guessed c))

pub returns-then-is_numbered-clause-full : goal.returns-then-is_numbered-clause-full
returns-then-is_numbered-clause-full c = (λ e. absurd (ok_err _ _ e), λ facts. absurd (false≢true (sym facts.0 ∙ guessed c)))

pub add-requires-clause-task : goal.add-requires-clause-task
add-requires-clause-task c = subst IsTask (sym c.task_of-task.ensures) (task_of-IsTask c.args.pid c.args.cpu)

pub returns-in-Some-clause-numbered : goal.returns-in-Some-clause-numbered
returns-in-Some-clause-numbered c = rw c.remember.ensures (stands-at c.args.self.now (task_of c.args.pid c.args.cpu) c.in-Some.number (sym c.in-Some.ensures.found))

pub returns-in-None-clause-number : goal.returns-in-None-clause-number
returns-in-None-clause-number c = rw (number-next c.args.self.now (task_of c.args.pid c.args.cpu) (c.in-None.ensures.none.0 (λ i. false))) c.add.ensures.number

pub returns-in-None-clause-numbered : goal.returns-in-None-clause-numbered
returns-in-None-clause-numbered c = rw (← c.task_of-task.ensures) (stands-last c.add.result c.args.self.now c.add.new.self c.task_of-task.result c.add.ensures.number c.add.ensures.grown)
