-- What a write to a control file does (this project's choice after Linux, Documentation/trace/rv: docs/FORMATS.md, "Control files").
use Rattle.std.specs.Prelude.{◌≡◌, ℕ, ◌-◌, ◌^◌, Bool, true, false, ◌&&◌, ◌==◌, nat_lt, bytes_eq, bit_and, bit_or, List, [], ◌∷◌, length, take, slice_index, slice_set, Option, Some, None, option_map, option_and_then, Result, Ok, Err, if◌then◌else◌, codes}
use Rattle.std.specs.Int.{bit_not, w64}
use Rattle.std.specs.Option.{ok_or}
use Rattle.rv_text.specs.Readings.{and_then}
use Rattle.rv_text.specs.declared.numbers.TheConstants.{NO_SUCH_FILE, INVALID}
use Rattle.rv_text.specs.declared.refusals.Refusal.{Refusal}
use Rattle.rv_model.specs.declared.reactor.Reactor.{Reactor}
use Rattle.rv_model.specs.declared.work.Change.{Change}
use Rattle.rv_model.specs.Numbers.{has_bit}
use Rattle.rv_bind.specs.declared.bindings.Item.{Item}
use Rattle.rv_model.specs.Reactors.{reactor_named}
use Rattle.rv_control.specs.declared.sets.Those.TheVariants as those
use Rattle.rv_control.specs.declared.paths.Path.{Path}
use Rattle.rv_control.specs.declared.paths.Path.TheVariants.{AvailableMonitors, AvailableReactors, EnabledMonitors, MonitoringOn, ReactingOn, Desc, Enable, Reactors}
use Rattle.rv_control.specs.declared.orders.Order.{Order}
use Rattle.rv_control.specs.declared.orders.Order.TheVariants as orders
use Rattle.rv_control.specs.Trees.{ControlValue}
use Rattle.rv_control.specs.Sets.{chosen_set}
use Rattle.rv_control.specs.Paths.{item_named, path_of}

-- ---- texts

-- one line end at the end of the text is dropped
abbrev pub without_end : List ℕ → List ℕ
without_end text = if nat_lt 0 (length text) && slice_index text (length text - 1) == 10 then take (length text - 1) text else text

-- `0` or `1`
abbrev pub flag_of : List ℕ → Option Bool
flag_of text = if bytes_eq text (codes "0") then Some false else if bytes_eq text (codes "1") then Some true else None

-- nothing, a name that is enabled, or `!` and a name that is disabled
abbrev pub order_of : ControlValue → List ℕ → Option Order
order_of tree [] = Some orders.Nothing
order_of tree (byte ∷ bytes) = if byte == 33 then option_map orders.Disable (item_named tree bytes) else option_map orders.Enable (item_named tree (byte ∷ bytes))

-- ---- changes

-- no switch goes off or on, and no monitor is cleared
abbrev pub no_change : Change
no_change = record { lower = 0; clear = 0; raise = 0 }

-- a switch goes on or off, where it is not so already
abbrev pub switching : ControlValue → ℕ → Bool → Change
switching tree bit true = if has_bit tree.switches bit then no_change else record no_change { raise = 2 ^ bit }
switching tree bit false = if has_bit tree.switches bit then record no_change { lower = 2 ^ bit } else no_change

-- those monitors of a container or a monitor that are not enabled are cleared and enabled
abbrev pub enabling : ControlValue → Item → Change
enabling tree item = let fresh = chosen_set tree (Some item) those.Disabled in record { lower = 0; clear = fresh; raise = fresh }

-- those that are enabled are disabled
abbrev pub disabling : ControlValue → Item → Change
disabling tree item = record no_change { lower = chosen_set tree (Some item) those.Enabled }

-- an item is enabled or disabled
abbrev pub turning : ControlValue → Item → Bool → Change
turning tree item true = enabling tree item
turning tree item false = disabling tree item

-- all monitors are disabled
abbrev pub disabling_all : ControlValue → Change
disabling_all tree = record no_change { lower = chosen_set tree None those.Enabled }

-- all monitors are disabled, and then all of the container's or the monitor itself are cleared and enabled
abbrev pub enabling_alone : ControlValue → Item → Change
enabling_alone tree item = let fresh = chosen_set tree (Some item) those.All in record (disabling_all tree) { clear = fresh; raise = fresh }

-- an order that is not appended comes after all monitors are disabled, so that there is nothing more to disable
abbrev pub replacing : ControlValue → Order → Change
replacing tree orders.Nothing = disabling_all tree
replacing tree (orders.Enable item) = enabling_alone tree item
replacing tree (orders.Disable item) = disabling_all tree

-- an order that is appended leaves the other monitors as they are; there is no appending of nothing
abbrev pub appending : ControlValue → Order → Option Change
appending tree orders.Nothing = None
appending tree (orders.Enable item) = Some (enabling tree item)
appending tree (orders.Disable item) = Some (disabling tree item)

-- an order is appended, or it replaces what was enabled
abbrev pub ordering : ControlValue → Bool → Order → Option Change
ordering tree true order = appending tree order
ordering tree false order = Some (replacing tree order)

-- ---- writes

-- the change of the switches that a text asks of a file, where it is allowed
abbrev pub change_of : ControlValue → Path → List ℕ → Bool → Option Change
change_of tree MonitoringOn text append = option_map (switching tree 32) (flag_of text)
change_of tree ReactingOn text append = option_map (switching tree 33) (flag_of text)
change_of tree EnabledMonitors text append = option_and_then (ordering tree append) (order_of tree text)
change_of tree (Enable item) text append = option_map (turning tree item) (flag_of text)
change_of tree AvailableMonitors text append = None
change_of tree AvailableReactors text append = None
change_of tree (Desc item) text append = None
change_of tree (Reactors place) text append = None

-- the switches go off, and then on
abbrev pub with_switches : ControlValue → Change → ControlValue
with_switches tree change = record tree { switches = bit_or (bit_and tree.switches (bit_not w64 change.lower)) change.raise }

-- the change as a tree, too
abbrev pub with_change : ControlValue → Change → ControlValue × Change
with_change tree change = (with_switches tree change, change)

-- the monitor's reactor is this one; no switch changes
abbrev pub with_reactor : ControlValue → ℕ → Reactor → ControlValue × Change
with_reactor tree place reactor = (record tree { reactors = slice_set tree.reactors place reactor }, no_change)

-- what a text makes of the tree at a file, where it is allowed
abbrev pub written : ControlValue → Path → List ℕ → Bool → Option (ControlValue × Change)
written tree (Reactors place) text append = option_map (with_reactor tree place) (reactor_named text)
written tree file text append = option_map (with_change tree) (change_of tree file text append)

-- what a write makes of the tree, and its change; or that there is no such file, or that the text is not allowed
abbrev pub effect : ControlValue → List ℕ → List ℕ → Bool → Result (ControlValue × Change) Refusal
effect tree path text append =
    and_then (ok_or (path_of tree path) (record { number = NO_SUCH_FILE; line = 0 })) (λ file.
    ok_or (written tree file (without_end text) append) (record { number = INVALID; line = 0 }))
