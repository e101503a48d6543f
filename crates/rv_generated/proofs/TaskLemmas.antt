-- The tasks of the generated trace: they are few, and each stays where it first stood.
use Rattle.std.proofs.Common.{◌≡◌, ℕ, suc, ◌+◌, ◌<◌, ◌≤◌, inl, inr, Bool, true, false, not, cond, ◌||◌, ◌&&◌, ◌==◌, eqb, List, [], ◌∷◌, ◌++◌, map, length, get_or, Some, refl, sym, ◌∙◌, ap, ap₂, subst, arith, length-append}
use Rattle.std.specs.Prelude.{All, slice_get}
use Rattle.std.specs.List.{IsDistinct, list_any}
use Rattle.std.proofs.lemmas.Bool.{false≢true, or_parts, or_cases, eq-eqb, eqb-true}
use Rattle.std.proofs.lemmas.Bool.Decides.{Decides-eqb, Decides-and}
use Rattle.std.proofs.lemmas.Cmp.{nat_eq_equiv}
use Rattle.std.proofs.lemmas.List.{get_or_append_left, get_or-append-add, length-map, map-append}
use Rattle.std.proofs.lemmas.List.Elements.{All-nil, All-head, All-tail, All-push}
use Rattle.std.proofs.lemmas.Map.Keys.{IsDistinct-push}
use Rattle.std.proofs.lemmas.Map.Steps.{length-le_from_distinct_below}
use Rattle.std.proofs.lemmas.Option.{slice_get-get_or, slice_get_within, get_or_from_slice_get}
use Rattle.rv_model.specs.declared.record.Task.{Task}
use Rattle.rv_slots.specs.Tasks.{same_task, is_held, with_task, task_number}

-- tasks that the test takes for one are equal
alike-equal : (a b : Task) → same_task a b ≡ true → b ≡ a
alike-equal a b same =
    let parts = (Decides-and (a.pid == b.pid) (a.cpu == b.cpu) (Decides-eqb a.pid b.pid) (Decides-eqb a.cpu b.cpu)).0 same in
    ap₂ (λ pid cpu. record { pid = pid; cpu = cpu }) (sym parts.0) (sym parts.1)

-- the task has one of the pids below 116, and is no idle task
pub record IsLow (task : Task) : Type 0 where
  pub pid : task.pid < 116
  pub cpu : task.cpu ≡ 0

-- the pids of tasks
abbrev pub pids : List Task → List ℕ
pids tasks = map (λ t. t.pid) tasks

-- tasks with low pids, each once
pub record AreLow (tasks : List Task) : Type 0 where
  pub distinct : IsDistinct eqb (pids tasks)
  pub each : All IsLow tasks

-- no task yet
pub no-task : AreLow []
unfolding IsDistinct
no-task = record { distinct = tt; each = All-nil IsLow }

-- a pid among them is low
pid-low : (tasks : List Task) → All IsLow tasks → (q : ℕ) → list_any (eqb q) (pids tasks) ≡ true → q < 116
pid-low [] all q is = absurd (false≢true is)
pid-low (task ∷ tasks) all q is =
    elim (or_cases _ _ is) [
      | inl here ↦ (let low = (All-head IsLow task tasks all).pid in let same : q ≡ task.pid = eqb-true q task.pid here in omega arith)
      | inr later ↦ pid-low tasks (All-tail IsLow task tasks all) q later
    ]

-- there are few
pub low-few : (tasks : List Task) → AreLow tasks → length tasks ≤ 116
low-few tasks are = omega (arith, length-map tasks (λ (t : Task). t.pid), length-le_from_distinct_below (pids tasks) 116 are.distinct (pid-low tasks are.each))

-- the pid of a task that is not held is another one
new-pid : (task : Task) (tasks : List Task) → IsLow task → All IsLow tasks → is_held tasks task ≡ false → list_any (eqb task.pid) (pids tasks) ≡ false
new-pid task [] low all new = refl
new-pid task (x ∷ tasks) low all new =
    let parts = or_parts (same_task task x) (is_held tasks task) new in
    let cpu : eqb task.cpu x.cpu ≡ true = eq-eqb task.cpu x.cpu (low.cpu ∙ sym (All-head IsLow x tasks all).cpu) in
    let first : eqb task.pid x.pid ≡ false = other (eqb task.pid x.pid) (eqb task.cpu x.cpu) cpu parts.0 in
    rw (first, new-pid task tasks low (All-tail IsLow x tasks all) parts.1) refl
  where
    other : (a b : Bool) → b ≡ true → (a && b) ≡ false → a ≡ false
    other true b is none = absurd (false≢true (sym none ∙ is))
    other false b is none = refl

-- the tasks with a low one are still low
pub low-more : (task : Task) (tasks : List Task) → IsLow task → AreLow tasks → AreLow (with_task tasks task)
low-more task tasks low are = go (is_held tasks task) refl
  where
    go : (held : Bool) → is_held tasks task ≡ held → AreLow (cond held tasks (tasks ++ task ∷ []))
    go true is = are
    go false is = record {
      distinct = subst (IsDistinct eqb) (sym (map-append (λ (t : Task). t.pid) tasks (task ∷ []))) (IsDistinct-push nat_eq_equiv (pids tasks) task.pid are.distinct (new-pid task tasks low are.each is));
      each = All-push IsLow tasks task are.each low;
    }

-- a task that is held stands at its number
held-there : (task : Task) (tasks : List Task) → is_held tasks task ≡ true → slice_get tasks (task_number tasks task) ≡ Some task
held-there task [] held = absurd (false≢true held)
held-there task (x ∷ tasks) held = go (same_task task x) refl (held-there task tasks) held
  where
    go : (same : Bool) → same_task task x ≡ same → (is_held tasks task ≡ true → slice_get tasks (task_number tasks task) ≡ Some task) → (same || is_held tasks task) ≡ true
        → slice_get (x ∷ tasks) (cond (not same) (1 + task_number tasks task) 0) ≡ Some task
    go true is later held = ap Some (alike-equal task x is)
    go false is later held = (let next : 1 + task_number tasks task ≡ suc (task_number tasks task) = omega arith in ap (slice_get (x ∷ tasks)) next ∙ later held)

-- one that is not held comes last
new-number : (task : Task) (tasks : List Task) → is_held tasks task ≡ false → task_number tasks task ≡ length tasks
new-number task [] new = refl
new-number task (x ∷ tasks) new =
    let parts = or_parts (same_task task x) (is_held tasks task) new in
    ap (λ b. cond (not b) (1 + task_number tasks task) 0) parts.0 ∙ (let rest = new-number task tasks parts.1 in omega arith)

-- so the task stands at its number among the tasks with it
pub task-there : (task : Task) (tasks : List Task) → slice_get (with_task tasks task) (task_number tasks task) ≡ Some task
task-there task tasks = go (is_held tasks task) refl
  where
    go : (held : Bool) → is_held tasks task ≡ held → slice_get (cond held tasks (tasks ++ task ∷ [])) (task_number tasks task) ≡ Some task
    go true is = held-there task tasks is
    go false is =
        let here : length tasks ≡ length tasks + 0 = omega arith in
        ap (slice_get (tasks ++ task ∷ [])) (new-number task tasks is)
        ∙ slice_get-get_or (tasks ++ task ∷ []) (length tasks) task (omega (arith, length-append tasks (task ∷ [])))
        ∙ ap (λ n. Some (get_or (tasks ++ task ∷ []) n task)) here ∙ ap Some (get_or-append-add tasks (task ∷ []) 0 task)

-- and each task before stays where it stands
pub task-stays : (task other : Task) (tasks : List Task) (n : ℕ) → slice_get tasks n ≡ Some other → slice_get (with_task tasks task) n ≡ Some other
task-stays task other tasks n there = go (is_held tasks task)
  where
    go : (held : Bool) → slice_get (cond held tasks (tasks ++ task ∷ [])) n ≡ Some other
    go true = there
    go false =
        let inside : n < length tasks = slice_get_within tasks n other there in
        slice_get-get_or (tasks ++ task ∷ []) n task (omega (arith, length-append tasks (task ∷ [])))
        ∙ ap Some (get_or_append_left tasks (task ∷ []) task n inside ∙ get_or_from_slice_get tasks n other task there)
