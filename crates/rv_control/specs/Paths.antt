-- The paths of the control files (this project's choice after Linux, Documentation/trace/rv: docs/FORMATS.md, "Control files").
use Rattle.std.specs.Prelude.{ℕ, Bool, true, false, ◌&&◌, ◌==◌, bytes_eq, position, List, [], ◌∷◌, Option, Some, None, option_map, option_and_then, if◌then◌else◌, codes}
use Rattle.rv_text.specs.Pieces.{pieces_by}
use Rattle.rv_model.specs.Reports.{display_name}
use Rattle.rv_bind.specs.declared.bindings.Item.{Item}
use Rattle.rv_bind.specs.declared.bindings.Item.TheVariants as items
use Rattle.rv_control.specs.declared.watched.MonitorInfo.{MonitorInfo}
use Rattle.rv_control.specs.declared.paths.Path.{Path}
use Rattle.rv_control.specs.declared.paths.Path.TheVariants.{AvailableMonitors, AvailableReactors, EnabledMonitors, MonitoringOn, ReactingOn, Desc, Enable, Reactors}
use Rattle.rv_control.specs.Trees.{ControlValue}

-- ---- names

-- the container of this name
abbrev pub container_named : ControlValue → List ℕ → Option ℕ
container_named tree name = position (λ other. bytes_eq other name) tree.containers

-- both name one container, or neither names any
abbrev pub is_same_container : Option ℕ → Option ℕ → Bool
is_same_container None None = true
is_same_container None (Some other) = false
is_same_container (Some place) None = false
is_same_container (Some place) (Some other) = place == other

-- the monitor has this name, and is in this container, or in none
abbrev pub is_called_in : Option ℕ → List ℕ → MonitorInfo → Bool
is_called_in holder name m = is_same_container m.container holder && bytes_eq m.name name

-- the monitor of this name in this container, or in none
abbrev pub monitor_item : ControlValue → Option ℕ → List ℕ → Option Item
monitor_item tree holder name = option_map items.Monitor (position (is_called_in holder name) tree.monitors)

-- the first where there is one, or else the second
abbrev pub item_or : Option ℕ → Option Item → Option Item
item_or None other = other
item_or (Some container) other = Some (items.Container container)

-- a container, or a monitor outside containers
abbrev pub outer_named : ControlValue → List ℕ → Option Item
outer_named tree name = item_or (container_named tree name) (monitor_item tree None name)

-- a monitor in a container
abbrev pub inner_named : ControlValue → List ℕ → List ℕ → Option Item
inner_named tree container name = option_and_then (λ place. monitor_item tree (Some place) name) (container_named tree container)

-- the monitor's display name is this one
abbrev pub has_display_name : ControlValue → List ℕ → MonitorInfo → Bool
has_display_name tree name m = bytes_eq (display_name tree.containers m.container m.name) name

-- a container, or a monitor by its display name
abbrev pub item_named : ControlValue → List ℕ → Option Item
item_named tree name = item_or (container_named tree name) (option_map items.Monitor (position (has_display_name tree name) tree.monitors))

-- ---- files

-- the files beside `monitors`
abbrev pub top_file : List ℕ → Option Path
top_file name =
    if bytes_eq name (codes "available_monitors") then Some AvailableMonitors
    else if bytes_eq name (codes "available_reactors") then Some AvailableReactors
    else if bytes_eq name (codes "enabled_monitors") then Some EnabledMonitors
    else if bytes_eq name (codes "monitoring_on") then Some MonitoringOn
    else if bytes_eq name (codes "reacting_on") then Some ReactingOn else None

-- a container has no reactors
abbrev pub reactors_file : Item → Option Path
reactors_file (items.Container place) = None
reactors_file (items.Monitor place) = Some (Reactors place)

-- the files of a container or a monitor
abbrev pub item_file : List ℕ → Item → Option Path
item_file name item =
    if bytes_eq name (codes "desc") then Some (Desc item)
    else if bytes_eq name (codes "enable") then Some (Enable item)
    else if bytes_eq name (codes "reactors") then reactors_file item else None

-- a file below `monitors`, of a container or a monitor that there is
abbrev pub file_below : List ℕ → Option Item → List ℕ → Option Path
file_below top item name = if bytes_eq top (codes "monitors") then option_and_then (item_file name) item else None

-- the file of these pieces
abbrev pub file_by : ControlValue → List (List ℕ) → Option Path
file_by tree [] = None
file_by tree (name ∷ []) = top_file name
file_by tree (top ∷ name ∷ []) = None
file_by tree (top ∷ item ∷ name ∷ []) = file_below top (outer_named tree item) name
file_by tree (top ∷ container ∷ monitor ∷ name ∷ []) = file_below top (inner_named tree container monitor) name
file_by tree (top ∷ container ∷ monitor ∷ name ∷ more ∷ pieces) = None

-- the file of a path, by its pieces between slashes
abbrev pub path_of : ControlValue → List ℕ → Option Path
path_of tree path = file_by tree (pieces_by 47 path)

-- there is a file, and it is a monitor's reactors
abbrev pub is_reactors_file : Option Path → Bool
is_reactors_file (Some (Reactors place)) = true
is_reactors_file _ = false

-- the path is that of a monitor's reactors
abbrev pub is_reactors : ControlValue → List ℕ → Bool
is_reactors tree path = is_reactors_file (path_of tree path)
