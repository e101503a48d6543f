-- A task's number is its place.
use Rattle.std.proofs.Common.{◌≡◌, ℕ, zero, suc, ◌<◌, Bool, true, false, cond, List, [], ◌∷◌, ◌++◌, length, Some, None, ◌==◌, Result, Ok, Err, refl, sym, ◌∙◌, ap, ap₂, subst, arith, All, slice_get, get_or, nat_lt, length-append}
use Rattle.std.specs.List.{IsDistinct, position, position_or_len}
use Rattle.std.proofs.lemmas.Bool.{false≢true}
use Rattle.std.proofs.lemmas.Bool.Decides.{Decides-eqb, Decides-and}
use Rattle.std.proofs.lemmas.List.Folds.{list_any_at, list_any_none}
use Rattle.std.proofs.lemmas.List.Sums.{position_or_len_is}
use Rattle.std.proofs.lemmas.Map.Keys.{apart_from_distinct}
use Rattle.std.proofs.lemmas.Option.{slice_get-get_or, slice_get_within, get_or_from_slice_get}
use Rattle.std.proofs.lemmas.List.Quantifiers.{position-Some}
use Rattle.std.proofs.Math.Seq.{get_or-append_seam}
use Rattle.std.specs.Prelude.{IfOk, OnOk}
use Rattle.rv_model.specs.declared.record.Task.{Task}
use Rattle.rv_slots.specs.declared.tasks.TaskFault.{TaskFault}
use Rattle.rv_slots.specs.Tasks.{task_of, same_task, is_held, task_number, IsTask}

-- what is not true
not-true : (b : Bool) → (b ≡ true → ⊥) → b ≡ false
not-true true other = absurd (other refl)
not-true false other = refl

-- two numbers that were found are one
pub one-number : (k n : ℕ) → Some k ≡ Some n → k ≡ n
one-number k n e = cc

-- tasks that the test takes for one are equal
same_task-equal : (a b : Task) → same_task a b ≡ true → b ≡ a
same_task-equal a b same =
    let parts = (Decides-and (a.pid == b.pid) (a.cpu == b.cpu) (Decides-eqb a.pid b.pid) (Decides-eqb a.cpu b.cpu)).0 same in
    ap₂ (λ pid cpu. record { pid = pid; cpu = cpu }) (sym parts.0) (sym parts.1)

-- and a task is itself
same_task-self : (a : Task) → same_task a a ≡ true
same_task-self a = (Decides-and (a.pid == a.pid) (a.cpu == a.cpu) (Decides-eqb a.pid a.pid) (Decides-eqb a.cpu a.cpu)).1 (refl, refl)

module _ (tasks : List Task) (distinct : IsDistinct same_task tasks) (task : Task) where
  -- no task before its place is the same
  not-before : (k n : ℕ) → slice_get tasks n ≡ Some task → k < n → same_task task (get_or tasks k task) ≡ false
  not-before k n here less = not-true (same_task task (get_or tasks k task)) (λ same.
      let apart = apart_from_distinct same_task tasks k n task distinct less (slice_get_within tasks n task here) in
      let one = ap₂ same_task (same_task-equal task _ same) (get_or_from_slice_get tasks n task task here) in
      false≢true (sym apart ∙ one ∙ same_task-self task))

  -- where it stands is its number
  number-at : (n : ℕ) → slice_get tasks n ≡ Some task → task_number tasks task ≡ n
  number-at n here =
      let end = slice_get_within tasks n task here in
      position_or_len_is (same_task task) tasks n task (omega (arith, end)) (λ k less. not-before k n here less) (λ _. ap (same_task task) (get_or_from_slice_get tasks n task task here) ∙ same_task-self task)

  pub position-at : (n : ℕ) → slice_get tasks n ≡ Some task → position (same_task task) tasks ≡ Some n
  position-at n here =
      let end = slice_get_within tasks n task here in
      let within : nat_lt n (length tasks) ≡ true = grind (arith, end) in
      ap (λ (k : ℕ). cond (nat_lt k (length tasks)) (Some k) None) (number-at n here) ∙ ap (λ (b : Bool). cond b (Some n) None) within

-- a task that stands somewhere is held
pub held-at : (tasks : List Task) (task : Task) (n : ℕ) → slice_get tasks n ≡ Some task → is_held tasks task ≡ true
held-at tasks task n here = list_any_at (same_task task) tasks n task (slice_get_within tasks n task here) (ap (same_task task) (get_or_from_slice_get tasks n task task here) ∙ same_task-self task)

-- the place that was found is the first
pub number-found : {X : Type 0} (p : X → Bool) (xs : List X) (n : ℕ) → Some n ≡ position p xs → n ≡ position_or_len p xs
number-found p xs n found = chosen _ n _ found
  where
    chosen : (b : Bool) (n m : ℕ) → Some n ≡ cond b (Some m) None → n ≡ m
    chosen true n m e = cc
    chosen false n m e = absurd cc

-- a task that stands nowhere
module _ (tasks : List Task) (task : Task) (nowhere : (n : ℕ) → slice_get tasks n ≡ Some task → ⊥) where
  other-at : (k : ℕ) (d : Task) → k < length tasks → same_task task (get_or tasks k d) ≡ false
  other-at k d within = not-true (same_task task (get_or tasks k d)) (λ same. nowhere k (slice_get-get_or tasks k d within ∙ ap Some (same_task-equal task _ same)))

  pub not-held : is_held tasks task ≡ false
  not-held = list_any_none (same_task task) tasks other-at

-- and one that the test does not find
module _ (tasks : List Task) (task : Task) (new : is_held tasks task ≡ false) where
  nowhere : (n : ℕ) → slice_get tasks n ≡ Some task → ⊥
  nowhere n here =
      let held = held-at tasks task n here in
      absurd (cc (held, new))

  pub number-next : task_number tasks task ≡ length tasks
  number-next = position_or_len_is (same_task task) tasks (length tasks) task (omega arith) (λ k less. other-at tasks task nowhere k task less) (λ less. absurd (omega (arith, less)))

-- only an idle task has a CPU
pub task_of-IsTask : (pid cpu : ℕ) → IsTask (task_of pid cpu)
task_of-IsTask pid cpu some = go (pid == 0) refl
  where
    go : (b : Bool) → (pid == 0) ≡ b → cond b cpu 0 ≡ 0
    go true idle = absurd (some ((Decides-eqb pid 0).0 idle))
    go false other = refl

-- the task that was found stands at its place
pub stands-at : (tasks : List Task) (task : Task) (n : ℕ) → position (same_task task) tasks ≡ Some n → slice_get tasks n ≡ Some task
stands-at tasks task n found =
    let at = position-Some (same_task task) tasks n task found in
    slice_get-get_or tasks n task at.0 ∙ ap Some (same_task-equal task _ at.1)

-- and the one that was added stands last
pub stands-last : (r : Result ℕ TaskFault) (old new : List Task) (task : Task) → IfOk r (λ n. n ≡ length old) → OnOk r (new ≡ old ++ task ∷ []) → IfOk r (λ n. slice_get new n ≡ Some task)
stands-last (Ok n) old new task is grown =
    let within : length old < length (old ++ task ∷ []) = grind (arith, length-append old (task ∷ [])) in
    (λ i. slice_get (grown i) (is i)) ∙ slice_get-get_or (old ++ task ∷ []) (length old) task within ∙ ap Some (get_or-append_seam old task [] task)
stands-last (Err e) old new task is grown = tt

-- the task that stands at a place is this one
pub stands-here : (tasks : List Task) (n : ℕ) (task d : Task) → n < length tasks → same_task (get_or tasks n d) task ≡ true → slice_get tasks n ≡ Some task
stands-here tasks n task d within same = slice_get-get_or tasks n d within ∙ ap Some (sym (same_task-equal _ task same))

-- what holds of each task by its place, and of one more behind them
pushed : (R : Task → ℕ → Type 0) (tasks : List Task) (task : Task) → ((t : Task) (k : ℕ) → slice_get tasks k ≡ Some t → R t k) → R task (length tasks) → (t : Task) (k : ℕ) → slice_get (tasks ++ task ∷ []) k ≡ Some t → R t k
pushed R [] task front last t zero here = subst (λ (x : Task). R x 0) (cc (here)) last
pushed R [] task front last t (suc k) here = absurd (cc (here))
pushed R (x ∷ xs) task front last t zero here = front t 0 here
pushed R (x ∷ xs) task front last t (suc k) here = pushed (λ t k. R t (suc k)) xs task (λ t k. front t (suc k)) last t k here

-- one more task
pub are-tasks : (tasks : List Task) (task : Task) → All IsTask tasks → IsTask task → All IsTask (tasks ++ task ∷ [])
are-tasks tasks task tell is k d within = go k within
  where
    go : (k : ℕ) → k < length (tasks ++ task ∷ []) → IsTask (get_or (tasks ++ task ∷ []) k d)
    go k within = pushed (λ t k. IsTask t) tasks task (λ t k here. subst IsTask (get_or_from_slice_get tasks k t t here) (tell k t (slice_get_within tasks k t here))) is (get_or (tasks ++ task ∷ []) k d) k (slice_get-get_or (tasks ++ task ∷ []) k d within)
