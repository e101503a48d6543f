-- What the files of a run come to, and the run that they determine.
use Rattle.std.specs.Prelude.{◌≡◌, ℕ, List, [], map, length, Some, slice_get}
use Rattle.rv_io.specs.Files.{Files}
use Rattle.rv_model.specs.declared.work.Change.{Change}
use Rattle.rv_model.specs.declared.work.Scope.TheVariants.{Cpu}
use Rattle.rv_model.specs.Setups.{Setup}
use Rattle.rv_model.specs.Table.{Table}
use Rattle.rv_model.specs.Histories.{Input}
use Rattle.rv_slots.specs.Shapes.{count_of}
use Rattle.rv_bind.specs.declared.bindings.Monitor.{Monitor}
use Rattle.rv_bind.specs.Values.{BoundValue}
use Rattle.rv_bind.specs.Bound.{bound_of}
use Rattle.rv_bind.specs.Outcomes.{Outcome, accepted, reading}
use Rattle.rv_route.specs.Routing.{RoutedValue}
use Rattle.rv_control.specs.Opening.{opening_switches}
use Rattle.rv_feed.specs.Lane.{panics_of}
use Rattle.rv_stream.specs.RoutedTraces.{routed_in}

-- the bindings, what each CPU has to do, and the changes of the control actor
pub record InputValue : Type 0 where
  pub bound : BoundValue
  pub routed : RoutedValue
  pub changes : List Change

-- the bindings with each specification as its line is reached, and then the trace; nothing changes beside them
abbrev pub run_input : Files → List ℕ → List ℕ → Outcome InputValue
run_input files bindings trace = reading (bound_of files bindings) (λ bound. reading (routed_in files trace bound) (λ routed. accepted (record { bound = bound; routed = routed; changes = [] })))

-- ---- the run

-- the monitor that stands here is by CPU
pub record HasCpus (monitors : List Monitor) (place : ℕ) : Type 0 where
  pub monitor : Monitor
  pub there : slice_get monitors place ≡ Some monitor
  pub scope : monitor.scope ≡ Cpu

-- the setup that a run with so many tasks opens with
abbrev pub opened : List Monitor → List Table → ℕ → Setup
opened monitors tables tasks = record {
  shape = map (count_of tasks) (map (λ m. m.scope) monitors);
  tables = tables;
  starts = map (λ m. m.starting) monitors;
  switches = opening_switches monitors;
}

-- the setup that the bindings open with for so many tasks
abbrev pub setup_of : BoundValue → ℕ → Setup
setup_of bound tasks = opened bound.monitors bound.tables tasks

-- the run of an input: its setup, specifications, panics, works and changes
abbrev pub run_of : InputValue → Input
run_of i = record {
  setup = setup_of i.bound (length i.routed.tasks);
  specs = map (λ m. m.spec) i.bound.monitors;
  panics = panics_of (map (λ m. m.reactor) i.bound.monitors);
  works = i.routed.works;
  changes = i.changes;
}
