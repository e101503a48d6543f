-- The control files of a run that begins.
use Rattle.std.specs.Prelude.{ℕ, ◌+◌, ◌^◌, Bool, false, List, map, Option, Some, None, slice_get}
use Rattle.rv_model.specs.Numbers.{number_of}
use Rattle.rv_model.specs.Words.{spec_kind}
use Rattle.rv_bind.specs.declared.bindings.Bindings.{Bindings}
use Rattle.rv_bind.specs.declared.bindings.Monitor.{Monitor}
use Rattle.rv_control.specs.declared.watched.MonitorInfo.{MonitorInfo}
use Rattle.rv_control.specs.Trees.{ControlValue}

-- what the control files show of a monitor
abbrev pub watched : Monitor → MonitorInfo
watched m = record { name = m.name; container = m.container; kind = spec_kind m.spec; scope = m.scope; file = m.file }

-- there is a monitor, and it is enabled when the run begins
abbrev pub starts_enabled : Option Monitor → Bool
starts_enabled None = false
starts_enabled (Some m) = m.enabled

-- whether the monitor of the bit is enabled
abbrev pub enables : List Monitor → ℕ → Bool
enables monitors bit = starts_enabled (slice_get monitors bit)

-- bits 32 and 33 are on, monitoring and reacting, and so is the bit of each monitor that is not off
abbrev pub opening_switches : List Monitor → ℕ
opening_switches monitors = number_of (enables monitors) 32 + (2 ^ 32 + 2 ^ 33)

-- the tree of bindings
abbrev pub opening_tree : Bindings → ControlValue
opening_tree b = record {
  switches = opening_switches b.monitors.items;
  reactors = map (λ m. m.reactor) b.monitors.items;
  containers = b.containers;
  monitors = map watched b.monitors.items;
  items = b.items.items;
}
