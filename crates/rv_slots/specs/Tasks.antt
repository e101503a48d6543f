-- Tasks in the order of their first use.
use Rattle.std.specs.Prelude.{◌≡◌, ◌≢◌, ℕ, Bool, ◌&&◌, ◌==◌, List, [], ◌∷◌, ◌++◌, if◌then◌else◌}
use Rattle.std.specs.List.{list_any, position_or_len}
use Rattle.rv_model.specs.declared.record.Task.{Task}

-- the task of a pid on a CPU: pid 0 is the idle task of each CPU
abbrev pub task_of : ℕ → ℕ → Task
task_of pid cpu = record { pid = pid; cpu = if pid == 0 then cpu else 0 }

-- only an idle task has a CPU
abbrev pub IsTask : Task → Type 0
IsTask task = task.pid ≢ 0 → task.cpu ≡ 0

-- the two are one task
abbrev pub same_task : Task → Task → Bool
same_task a b = a.pid == b.pid && a.cpu == b.cpu

-- the task is among the tasks
abbrev pub is_held : List Task → Task → Bool
is_held tasks task = list_any (same_task task) tasks

-- the tasks after one is used: a new one goes last
abbrev pub with_task : List Task → Task → List Task
with_task tasks task = if is_held tasks task then tasks else tasks ++ task ∷ []

-- the task's number: its place, or the next one
abbrev pub task_number : List Task → Task → ℕ
task_number tasks task = position_or_len (same_task task) tasks
