-- What the control files are about (Linux, Documentation/trace/rv, "User interface"; containers: kernels after 6.12).
use Rattle.std.specs.Prelude.{◌≡◌, ◌≤◌, ℕ, Bool, false, ◌==◌, List, [], ◌++◌, length, Option, Some, None, slice_get, slice_index_or, codes}
use Rattle.rv_model.specs.declared.reactor.Reactor.{Reactor}
use Rattle.rv_model.specs.Reports.{display_name}
use Rattle.rv_bind.specs.declared.bindings.Item.{Item}
use Rattle.rv_bind.specs.declared.bindings.Item.TheVariants as items
use Rattle.rv_control.specs.declared.watched.MonitorInfo.{MonitorInfo}

-- the switches, a reactor for each monitor, the containers' names, the monitors, and the items of the bindings
pub record ControlValue : Type 0 where
  pub switches : ℕ
  pub reactors : List Reactor
  pub containers : List (List ℕ)
  pub monitors : List MonitorInfo
  pub items : List Item

-- each monitor has a reactor, and a switch among the first 32
pub record IsControl (tree : ControlValue) : Type 0 where
  pub reactors : length tree.reactors ≡ length tree.monitors
  pub few_monitors : length tree.monitors ≤ 32
  pub few_containers : length tree.containers ≤ 32

-- ---- names

-- the display name of a monitor, and an empty one where there is no monitor
abbrev pub monitor_display_name : ControlValue → Option MonitorInfo → List ℕ
monitor_display_name tree None = []
monitor_display_name tree (Some m) = display_name tree.containers m.container m.name

-- how a container or a monitor is called
abbrev pub item_display_name : ControlValue → Item → List ℕ
item_display_name tree (items.Container place) = slice_index_or tree.containers place []
item_display_name tree (items.Monitor place) = monitor_display_name tree (slice_get tree.monitors place)

-- ---- containers and their monitors

-- a monitor's container is this one, where it has one
abbrev pub is_holder : ℕ → Option ℕ → Bool
is_holder container None = false
is_holder container (Some place) = place == container

-- the monitor is in the container
abbrev pub is_in_container : ℕ → Option MonitorInfo → Bool
is_in_container container None = false
is_in_container container (Some m) = is_holder container m.container

-- the monitor of this place is in the container, or is the monitor itself
abbrev pub belongs_to : ControlValue → Item → ℕ → Bool
belongs_to tree (items.Container container) place = is_in_container container (slice_get tree.monitors place)
belongs_to tree (items.Monitor monitor) place = monitor == place
