-- What the bindings say of each monitor in a report.
use Rattle.std.specs.Prelude.{ℕ, List, [], ◌++◌, map, Option, Some, None, slice_index_or, codes}
use Rattle.rv_model.specs.Reports.{Reported}
use Rattle.rv_bind.specs.declared.bindings.Bindings.{Bindings}
use Rattle.rv_bind.specs.declared.bindings.Monitor.{Monitor}

-- the display name: a container's name stands before that of a monitor in it
abbrev pub shown_by : List (List ℕ) → Option ℕ → List ℕ → List ℕ
shown_by containers None name = name
shown_by containers (Some container) name = slice_index_or containers container [] ++ codes ":" ++ name

-- a monitor of the bindings with these containers
abbrev pub reported : List (List ℕ) → Monitor → Reported
reported containers m = record { display_name = shown_by containers m.container m.name; scope = m.scope; spec = m.spec; reactor = m.reactor }

-- all monitors of the bindings
abbrev pub reported_of : Bindings → List Reported
reported_of b = map (reported b.containers) b.monitors.items
