-- Which instance two words of the command line name: a monitor's display name, and a decimal number.
use Rattle.std.specs.Prelude.{ℕ, ◌^◌, Bool, ◌||◌, ◌==◌, nat_lt, nat_le, List, map, length, position, Option, Some, None, option_map, slice_get, bytes_eq, if◌then◌else◌}
use Rattle.std.specs.Option.{option_and_then}
use Rattle.rv_model.specs.declared.record.Task.{Task}
use Rattle.rv_model.specs.declared.work.Scope.{Scope}
use Rattle.rv_model.specs.declared.work.Scope.TheVariants as scopes
use Rattle.rv_model.specs.Reports.{display_name}
use Rattle.rv_model.specs.Setups.{slot_of}
use Rattle.rv_text.specs.Decimal.{decimal_of}
use Rattle.rv_slots.specs.Shapes.{count_of}
use Rattle.rv_slots.specs.Tasks.{task_of, same_task}
use Rattle.rv_bind.specs.declared.bindings.Monitor.{Monitor}

-- the monitor's display name is this one
abbrev pub is_named : List (List ℕ) → List ℕ → Monitor → Bool
is_named containers name m = bytes_eq (display_name containers m.container m.name) name

-- a pid is from 1 on, and below 2 ^ 32; the idle tasks have pid 0
abbrev pub task_by : List Task → ℕ → Option ℕ
task_by tasks pid = if pid == 0 || nat_le (2 ^ 32) pid then None else position (same_task (task_of pid 0)) tasks

-- the instance of a number: 0 of a global monitor, a CPU below 64, or the task that has the pid
abbrev pub instance_by : List Task → Scope → ℕ → Option ℕ
instance_by tasks scopes.Global number = if number == 0 then Some 0 else None
instance_by tasks scopes.Cpu number = if nat_lt number 64 then Some number else None
instance_by tasks scopes.Task number = task_by tasks number

-- how many slots each monitor has
abbrev pub shape_of : List Monitor → ℕ → List ℕ
shape_of monitors tasks = map (count_of tasks) (map (λ m. m.scope) monitors)

-- the slot of the instance of the monitor at this place, where the text is a decimal and names one
abbrev pub slot_in : List ℕ → List Task → ℕ → List ℕ → Scope → Option ℕ
slot_in shape tasks place text scope = option_map (slot_of shape place) (option_and_then (instance_by tasks scope) (decimal_of text))

-- the slot that the two words name, where the first is a display name and the second names an instance of its monitor
abbrev pub slot_named : List (List ℕ) → List Monitor → List Task → List ℕ → List ℕ → Option ℕ
slot_named containers monitors tasks name text =
    option_and_then (λ place. option_and_then (λ m. slot_in (shape_of monitors (length tasks)) tasks place text m.scope) (slice_get monitors place)) (position (is_named containers name) monitors)
