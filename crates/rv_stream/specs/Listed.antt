-- The deliveries of a trace as one list, under bindings.
use Rattle.std.specs.Prelude.{◌<◌, ◌≤◌, All, AllPairs, length}
use Rattle.rv_bind.specs.declared.bindings.Bindings.{Bindings}
use Rattle.rv_bind.specs.WellFormed.{kinds_of}
use Rattle.rv_route.specs.declared.listing.RoutedList.{RoutedList}
use Rattle.rv_route.specs.Fitting.{WorksFit, FromRules}
use Rattle.rv_route.specs.Listing.{works_listed}

-- the works of the list fit the monitors of the bindings and come of their rules, its lines never descend, and its CPUs are below 64
pub record IsListed (bindings : Bindings) (routed : RoutedList) : Type 0 where
  pub fit : WorksFit (kinds_of bindings.monitors.items) (length routed.tasks) (works_listed routed.list)
  pub rules : FromRules bindings.rules.items (works_listed routed.list)
  pub ascend : AllPairs (λ d e. d.line ≤ e.line) routed.list
  pub cpus : All (λ d. d.cpu < 64) routed.list
