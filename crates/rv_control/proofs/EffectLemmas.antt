-- A write changes no switch from the halted one on.
use Rattle.std.proofs.Common.{◌≡◌, ℕ, ◌^◌, ◌<◌, ◌≤◌, Bool, true, false, List, length, sym, ap, subst, arith, if◌then◌else◌}
use Rattle.std.specs.Prelude.{Option, Some, None, Result, Ok, Err, option_map, option_and_then, IfSome}
use Rattle.std.specs.Option.{ok_or}
use Rattle.std.proofs.Math.Pow.{pow_mono}
use Rattle.rv_text.specs.Readings.{and_then}
use Rattle.rv_text.specs.declared.numbers.TheConstants.{NO_SUCH_FILE, INVALID}
use Rattle.rv_text.specs.declared.refusals.Refusal.{Refusal}
use Rattle.rv_model.specs.declared.reactor.Reactor.{Reactor}
use Rattle.rv_model.specs.declared.work.Change.{Change}
use Rattle.rv_model.specs.Numbers.{has_bit}
use Rattle.rv_model.proofs.NumberLemmas.{number_of-lt}
use Rattle.rv_bind.specs.declared.bindings.Item.{Item}
use Rattle.rv_model.specs.Reactors.{reactor_named}
use Rattle.rv_control.specs.declared.sets.Those.{Those}
use Rattle.rv_control.specs.declared.sets.Those.TheVariants as those
use Rattle.rv_control.specs.declared.paths.Path.{Path}
use Rattle.rv_control.specs.declared.paths.Path.TheVariants.{AvailableMonitors, AvailableReactors, EnabledMonitors, MonitoringOn, ReactingOn, Desc, Enable, Reactors}
use Rattle.rv_control.specs.declared.orders.Order.{Order}
use Rattle.rv_control.specs.declared.orders.Order.TheVariants as orders
use Rattle.rv_control.specs.Trees.{ControlValue}
use Rattle.rv_control.specs.Sets.{is_chosen, chosen_set}
use Rattle.rv_control.specs.Paths.{path_of}
use Rattle.rv_control.specs.Effects.{no_change, switching, enabling, disabling, turning, replacing, appending, ordering, order_of, flag_of, without_end, with_change, with_reactor, change_of, written, effect}

-- the change lowers and raises no bit from the halted one on
abbrev pub IsBelow : Change → Type 0
IsBelow c = (c.lower < 2 ^ 34) × (c.raise < 2 ^ 34)

-- what is made of a value has a fact, where each value has it
mapped : {X Y : Type 0} (P : Y → Type 0) (f : X → Y) → ((x : X) → P (f x)) → (o : Option X) → IfSome (option_map f o) P
mapped P f each None = tt
mapped P f each (Some x) = each x

-- what a second step makes of a value has a fact, where the step gives it of each value
chained : {X Y : Type 0} (P : Y → Type 0) (f : X → Option Y) → ((x : X) → IfSome (f x) P) → (o : Option X) → IfSome (option_and_then f o) P
chained P f each None = tt
chained P f each (Some x) = each x

module _ (tree : ControlValue) (few : length tree.monitors ≤ 32) where
  -- a set of monitors is below the switch of monitoring
  set-below : (item : Option Item) (which : Those) → chosen_set tree item which < 2 ^ 34
  set-below item which =
      let lt : chosen_set tree item which < 2 ^ length tree.monitors = number_of-lt (is_chosen tree item which) (length tree.monitors) in
      let le : 2 ^ length tree.monitors ≤ 2 ^ 32 = pow_mono few in
      omega arith

  -- a change of nothing touches no bit from the halted one on
  none-below : IsBelow no_change
  none-below = (omega arith, omega arith)

  -- nor does a lower switch that goes on, where it is not on already
  raised-below : (bit : ℕ) → 2 ^ bit < 2 ^ 34 → (b : Bool) → IsBelow (if b then no_change else record no_change { raise = 2 ^ bit })
  raised-below bit lt true = none-below
  raised-below bit lt false = (omega arith, lt)

  -- nor does a lower switch that goes off, where it is not off already
  lowered-below : (bit : ℕ) → 2 ^ bit < 2 ^ 34 → (b : Bool) → IsBelow (if b then record no_change { lower = 2 ^ bit } else no_change)
  lowered-below bit lt true = (lt, omega arith)
  lowered-below bit lt false = none-below

  -- nor does a lower switch that goes on or off
  switching-below : (bit : ℕ) → 2 ^ bit < 2 ^ 34 → (on : Bool) → IsBelow (switching tree bit on)
  switching-below bit lt true = raised-below bit lt (has_bit tree.switches bit)
  switching-below bit lt false = lowered-below bit lt (has_bit tree.switches bit)

  -- nor does enabling a container or a monitor
  enabling-below : (item : Item) → IsBelow (enabling tree item)
  enabling-below item = (omega arith, set-below (Some item) those.Disabled)

  -- nor does disabling it
  disabling-below : (item : Item) → IsBelow (disabling tree item)
  disabling-below item = (set-below (Some item) those.Enabled, omega arith)

  -- nor does either of the two
  turning-below : (item : Item) (on : Bool) → IsBelow (turning tree item on)
  turning-below item true = enabling-below item
  turning-below item false = disabling-below item

  -- nor does an order that replaces what was enabled
  replacing-below : (order : Order) → IsBelow (replacing tree order)
  replacing-below orders.Nothing = (set-below None those.Enabled, omega arith)
  replacing-below (orders.Enable item) = (set-below None those.Enabled, set-below (Some item) those.All)
  replacing-below (orders.Disable item) = (set-below None those.Enabled, omega arith)

  -- nor does an order that is appended
  appending-below : (order : Order) → IfSome (appending tree order) IsBelow
  appending-below orders.Nothing = tt
  appending-below (orders.Enable item) = enabling-below item
  appending-below (orders.Disable item) = disabling-below item

  -- nor does any order
  ordering-below : (append : Bool) (order : Order) → IfSome (ordering tree append order) IsBelow
  ordering-below true order = appending-below order
  ordering-below false order = replacing-below order

  -- nor does what a text asks of a file
  change-below : (file : Path) (text : List ℕ) (append : Bool) → IfSome (change_of tree file text append) IsBelow
  change-below MonitoringOn text append = mapped IsBelow (switching tree 32) (switching-below 32 (omega arith)) (flag_of text)
  change-below ReactingOn text append = mapped IsBelow (switching tree 33) (switching-below 33 (omega arith)) (flag_of text)
  change-below EnabledMonitors text append = chained IsBelow (ordering tree append) (ordering-below append) (order_of tree text)
  change-below (Enable item) text append = mapped IsBelow (turning tree item) (turning-below item) (flag_of text)
  change-below AvailableMonitors text append = tt
  change-below AvailableReactors text append = tt
  change-below (Desc item) text append = tt
  change-below (Reactors place) text append = tt

  -- what is written touches no bit from the halted one on
  abbrev pub WritesBelow : Option (ControlValue × Change) → Type 0
  WritesBelow o = IfSome o (λ done. IsBelow done.1)

  -- it is so where the change touches none
  with_change-below : (o : Option Change) → IfSome o IsBelow → WritesBelow (option_map (with_change tree) o)
  with_change-below None is = tt
  with_change-below (Some change) is = is

  -- it is so of every text at every file
  written-below : (file : Path) (text : List ℕ) (append : Bool) → WritesBelow (written tree file text append)
  written-below (Reactors place) text append = mapped (λ (done : ControlValue × Change). IsBelow done.1) (with_reactor tree place) (λ reactor. none-below) (reactor_named text)
  written-below MonitoringOn text append = with_change-below _ (change-below MonitoringOn text append)
  written-below ReactingOn text append = with_change-below _ (change-below ReactingOn text append)
  written-below EnabledMonitors text append = with_change-below _ (change-below EnabledMonitors text append)
  written-below (Enable item) text append = with_change-below _ (change-below (Enable item) text append)
  written-below AvailableMonitors text append = tt
  written-below AvailableReactors text append = tt
  written-below (Desc item) text append = tt

  -- what was written
  pub effect-below : (path text : List ℕ) (append : Bool) (after : ControlValue) (change : Change) → effect tree path text append ≡ Ok (after, change) → IsBelow change
  effect-below path text append after change is = found (path_of tree path) is
    where
      done : (o : Option (ControlValue × Change)) (refusal : Refusal) → WritesBelow o → ok_or o refusal ≡ Ok (after, change) → IsBelow change
      done None refusal below e = cc
      done (Some d) refusal below e = let same : d.1 ≡ change = cc in subst IsBelow same below

      found : (file : Option Path) → and_then (ok_or file (record { number = NO_SUCH_FILE; line = 0 })) (λ file. ok_or (written tree file (without_end text) append) (record { number = INVALID; line = 0 })) ≡ Ok (after, change) → IsBelow change
      found None e = cc
      found (Some file) e = done (written tree file (without_end text) append) _ (written-below file (without_end text) append) e
