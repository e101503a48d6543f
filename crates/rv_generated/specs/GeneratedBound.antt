-- What the generated bindings say: two monitors, and seven rules.
use Rattle.std.specs.Prelude.{ℕ, List, [], ◌∷◌, codes, Option, Some, None}
use Rattle.rv_model.specs.declared.formula.Spec.TheVariants as specs
use Rattle.rv_model.specs.declared.hit.Mode.{Mode}
use Rattle.rv_model.specs.declared.hit.Mode.TheVariants as modes
use Rattle.rv_model.specs.declared.hit.What.TheVariants as whats
use Rattle.rv_model.specs.declared.work.Scope.TheVariants as scopes
use Rattle.rv_model.specs.Table.{table_of}
use Rattle.rv_gen.specs.Generated.{wip, wwnr}
use Rattle.rv_bind.specs.declared.bindings.Item.TheVariants as items
use Rattle.rv_bind.specs.declared.bindings.Monitor.{Monitor}
use Rattle.rv_bind.specs.declared.bindings.Test.{Test}
use Rattle.rv_bind.specs.declared.bindings.Test.TheVariants.{Is, IsNot}
use Rattle.rv_bind.specs.Bound.{new_monitor}
use Rattle.rv_bind.specs.Values.{BoundValue, OnValue}

-- each CPU's preemption
abbrev pub wip_monitor : Monitor
wip_monitor = new_monitor (codes "wip") None scopes.Cpu (codes "wip.dot") (specs.Da wip)

-- each task's running
abbrev pub wwnr_monitor : Monitor
wwnr_monitor = new_monitor (codes "wwnr") None scopes.Task (codes "wwnr.dot") (specs.Da wwnr)

-- a rule of the monitor at an index, whose hit brings its automaton's event at an index
abbrev pub generated_rule : ℕ → List ℕ → Option (List ℕ) → List Test → Mode → ℕ → OnValue
generated_rule place event by tests mode letter = record { monitor = place; event = event; by = by; tests = tests; hit = record { mode = mode; what = whats.Da letter } }

-- preemption goes off
abbrev pub disable_rule : OnValue
disable_rule = generated_rule 0 (codes "preempt_disable") None [] modes.Event 0

-- preemption goes on, where a waiting instance begins
abbrev pub enable_rule : OnValue
enable_rule = generated_rule 0 (codes "preempt_enable") None [] modes.Start 1

-- a task is woken
abbrev pub waking_rule : OnValue
waking_rule = generated_rule 0 (codes "sched_waking") None [] modes.Event 2

-- a task goes to sleep, where a waiting instance begins
abbrev pub sleep_rule : OnValue
sleep_rule = generated_rule 1 (codes "sched_switch") (Some (codes "prev_pid")) (Is (codes "prev_state") (codes "S") ∷ []) modes.Start 1

-- a task goes, and does not sleep
abbrev pub out_rule : OnValue
out_rule = generated_rule 1 (codes "sched_switch") (Some (codes "prev_pid")) (IsNot (codes "prev_state") (codes "S") ∷ []) modes.Event 1

-- a task comes
abbrev pub in_rule : OnValue
in_rule = generated_rule 1 (codes "sched_switch") (Some (codes "next_pid")) [] modes.Event 0

-- a task was woken
abbrev pub wakeup_rule : OnValue
wakeup_rule = generated_rule 1 (codes "sched_wakeup") (Some (codes "pid")) [] modes.Event 2

-- the generated bindings
abbrev pub generated_bound : BoundValue
generated_bound = record {
  containers = [];
  monitors = wip_monitor ∷ wwnr_monitor ∷ [];
  rules = disable_rule ∷ enable_rule ∷ waking_rule ∷ sleep_rule ∷ out_rule ∷ in_rule ∷ wakeup_rule ∷ [];
  items = items.Monitor 0 ∷ items.Monitor 1 ∷ [];
  tables = table_of wip ∷ table_of wwnr ∷ [];
}
