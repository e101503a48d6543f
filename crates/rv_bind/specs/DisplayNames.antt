-- How the containers and the monitors of bindings are called in what is printed and in the paths of the control files.
use Rattle.std.specs.Prelude.{ℕ, List, ◌++◌, map}
use Rattle.rv_model.specs.Reports.{display_name}
use Rattle.rv_bind.specs.declared.bindings.Monitor.{Monitor}
use Rattle.rv_bind.specs.Values.{BoundValue}

-- a monitor's display name
abbrev pub display_name_of : BoundValue → Monitor → List ℕ
display_name_of b m = display_name b.containers m.container m.name

-- the names of the containers, and then the display names of the monitors
abbrev pub display_names : BoundValue → List (List ℕ)
display_names b = b.containers ++ map (display_name_of b) b.monitors
