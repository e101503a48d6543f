-- What the control files say (this project's choice after Linux, Documentation/trace/rv: docs/FORMATS.md, "Control files").
use Rattle.std.specs.Prelude.{ℕ, zero, suc, Bool, true, false, List, [], ◌∷◌, ◌++◌, length, flat_map, bytes_eq, Option, Some, None, slice_get, Result, Ok, if◌then◌else◌, codes}
use Rattle.std.specs.Option.{ok_or}
use Rattle.rv_text.specs.Readings.{and_then}
use Rattle.rv_text.specs.declared.numbers.TheConstants.{NO_SUCH_FILE}
use Rattle.rv_text.specs.declared.refusals.Refusal.{Refusal}
use Rattle.rv_model.specs.declared.reactor.Reactor.{Reactor}
use Rattle.rv_model.specs.Numbers.{has_bit}
use Rattle.rv_model.specs.Reactors.{all_reactors, reactor_name}
use Rattle.rv_model.specs.Reports.{line_end}
use Rattle.rv_model.specs.Words.{kind_name, scope_name}
use Rattle.rv_bind.specs.declared.bindings.Item.{Item}
use Rattle.rv_bind.specs.declared.bindings.Item.TheVariants as items
use Rattle.rv_control.specs.declared.watched.MonitorInfo.{MonitorInfo}
use Rattle.rv_control.specs.declared.paths.Path.{Path}
use Rattle.rv_control.specs.declared.paths.Path.TheVariants.{AvailableMonitors, AvailableReactors, EnabledMonitors, MonitoringOn, ReactingOn, Desc, Enable, Reactors}
use Rattle.rv_control.specs.Trees.{ControlValue, item_display_name, is_in_container}
use Rattle.rv_control.specs.Sets.{is_enabled}
use Rattle.rv_control.specs.Paths.{path_of}

-- ---- lists of monitors

-- of the first n monitors those in the container
unfoldable pub monitors_in : ControlValue → ℕ → ℕ → List Item
monitors_in tree container zero = []
monitors_in tree container (suc n) = monitors_in tree container n ++ (if is_in_container container (slice_get tree.monitors n) then items.Monitor n ∷ [] else [])

-- a container stands before its monitors
abbrev pub with_held : ControlValue → Item → List Item
with_held tree (items.Container place) = items.Container place ∷ monitors_in tree place (length tree.monitors)
with_held tree (items.Monitor place) = items.Monitor place ∷ []

-- all containers and monitors, in the order of the items
abbrev pub listed : ControlValue → List Item
listed tree = flat_map (with_held tree) tree.items

-- the lines are of all, or of those that are enabled
abbrev pub has_line : ControlValue → Bool → Item → Bool
has_line tree true item = is_enabled tree item
has_line tree false item = true

-- the line with the display name of a container or a monitor, where it is listed
abbrev pub name_line : ControlValue → Bool → Item → List ℕ
name_line tree enabled item = if has_line tree enabled item then item_display_name tree item ++ line_end else []

-- a line for each container and each monitor that is listed
abbrev pub names_text : ControlValue → Bool → List ℕ
names_text tree enabled = flat_map (name_line tree enabled) (listed tree)

-- ---- single files

-- whether it is on
abbrev pub flag_text : Bool → List ℕ
flag_text on = (if on then codes "1" else codes "0") ++ line_end

-- how a monitor is specified
abbrev pub watched_text : Option MonitorInfo → List ℕ
watched_text None = []
watched_text (Some m) = kind_name m.kind ++ codes " " ++ scope_name m.scope ++ codes " " ++ m.file ++ line_end

-- a container says that it is one, and a monitor how it is specified
abbrev pub desc_text : ControlValue → Item → List ℕ
desc_text tree (items.Container place) = codes "container" ++ line_end
desc_text tree (items.Monitor place) = watched_text (slice_get tree.monitors place)

-- the reactor stands in brackets: it is the chosen one
abbrev pub is_bracketed : Option Reactor → Reactor → Bool
is_bracketed None reactor = false
is_bracketed (Some chosen) reactor = bytes_eq (reactor_name chosen) (reactor_name reactor)

-- the line of a reactor, which is marked where it is the chosen one
abbrev pub reactor_line : Option Reactor → Reactor → List ℕ
reactor_line chosen reactor = (if is_bracketed chosen reactor then codes "[" ++ reactor_name reactor ++ codes "]" else reactor_name reactor) ++ line_end

-- a line for each reactor
abbrev pub reactors_text : Option Reactor → List ℕ
reactors_text chosen = flat_map (reactor_line chosen) all_reactors

-- the text of a file
abbrev pub text_of : ControlValue → Path → List ℕ
text_of tree AvailableMonitors = names_text tree false
text_of tree AvailableReactors = reactors_text None
text_of tree EnabledMonitors = names_text tree true
text_of tree MonitoringOn = flag_text (has_bit tree.switches 32)
text_of tree ReactingOn = flag_text (has_bit tree.switches 33)
text_of tree (Desc item) = desc_text tree item
text_of tree (Enable item) = flag_text (is_enabled tree item)
text_of tree (Reactors place) = reactors_text (slice_get tree.reactors place)

-- the text at a path, or that there is no such file
abbrev pub file_text : ControlValue → List ℕ → Result (List ℕ) Refusal
file_text tree path = and_then (ok_or (path_of tree path) (record { number = NO_SUCH_FILE; line = 0 })) (λ file. Ok (text_of tree file))
