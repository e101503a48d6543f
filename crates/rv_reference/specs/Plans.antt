-- A plan as the definitions' setup, and its slots.
use Rattle.std.specs.Prelude.{ℕ, ◌<◌, List, length, map, All}
use Rattle.rv_model.specs.declared.entry.Act.{Act}
use Rattle.rv_model.specs.declared.entry.Act.TheVariants.{Deliver, Stop, Clear, End}
use Rattle.rv_model.specs.declared.entry.Entry.{Entry}
use Rattle.rv_model.specs.declared.formula.Spec.{Spec}
use Rattle.rv_model.specs.Judging.{Judge}
use Rattle.rv_model.specs.Histories.{AreJudges}
use Rattle.rv_model.specs.Setups.{Setup, monitor_of}
use Rattle.rv_reference.specs.declared.monitor.Monitor.{Monitor}
use Rattle.rv_reference.specs.declared.plan.Plan.{Plan}
use Rattle.rv_reference.specs.Monitors.{table_by}

-- how many slots a monitor has
abbrev pub slots_in : Monitor → ℕ
slots_in m = m.slots

-- what a monitor judges by
abbrev pub spec_in : Monitor → Spec
spec_in m = m.spec

-- the levels of a monitor's slots that are on at first
abbrev pub start_in : Monitor → ℕ
start_in m = m.start

-- the plan as a setup
abbrev pub setup_of : Plan → Setup
setup_of p = record { shape = map slots_in p.monitors.items; tables = map table_by p.monitors.items; starts = map start_in p.monitors.items; switches = p.switches }

-- the fact holds by all judges of the plan's specifications and tables
abbrev pub ByJudges : Plan → (List Judge → Type 0) → Type 0
ByJudges p P = (js : List Judge) → AreJudges (map spec_in p.monitors.items) (map table_by p.monitors.items) js → P js

-- the slot is one of a monitor
abbrev pub HasSlot : Plan → ℕ → Type 0
HasSlot p slot = monitor_of (map slots_in p.monitors.items) slot < length p.monitors.items

-- where the act is on a slot, this slot is one of a monitor
abbrev pub HasSlotOf : Plan → Act → Type 0
HasSlotOf p (Deliver slot hit) = HasSlot p slot
HasSlotOf p (Stop slot) = HasSlot p slot
HasSlotOf p (Clear slot) = HasSlot p slot
HasSlotOf p (End slot) = HasSlot p slot
HasSlotOf p _ = Unit {0}

-- each slot that the history's acts are on is one of a monitor
abbrev pub HasSlots : Plan → List Entry → Type 0
HasSlots p history = All (λ e. HasSlotOf p e.act) history
