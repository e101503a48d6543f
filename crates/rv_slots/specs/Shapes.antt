-- How many slots the monitors have (Linux, Documentation/trace/rv: global, per-CPU and per-task monitors).
use Rattle.std.specs.Prelude.{◌≡◌, ◌≤◌, ◌+◌, ℕ, List, length, sum, take, slice_index}
use Rattle.rv_model.specs.declared.work.Scope.{Scope}
use Rattle.rv_model.specs.declared.work.Scope.TheVariants.{Global, Cpu, Task}
use Rattle.rv_slots.specs.declared.shape.TheConstants.{CPUS}

-- the slots of a monitor of the scope, in a run with so many tasks
abbrev pub count_of : ℕ → Scope → ℕ
count_of tasks Global = 1
count_of tasks Cpu = CPUS
count_of tasks Task = tasks

-- the first slot of each monitor, and behind them how many slots there are
abbrev pub AreBases : List ℕ → List ℕ → Type 0
AreBases shape bases = (length bases ≡ length shape + 1) × ((monitor : ℕ) → monitor ≤ length shape → slice_index bases monitor ≡ sum (take monitor shape))
