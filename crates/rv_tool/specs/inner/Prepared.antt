-- What a run begins with, as a plain value, and what it keeps.
use Rattle.std.specs.Prelude.{ℕ, ◌≡◌, ◌<◌, ◌≤◌, All, AllPairs, map, length}
use Rattle.rv_core.specs.Judged.{AllMean}
use Rattle.rv_bind.specs.WellFormed.{kinds_of, HaveTables}
use Rattle.rv_feed.specs.Changes.{IsBelowHalt}
use Rattle.rv_feed.specs.Lane.{FitLanes, works_of}
use Rattle.rv_route.specs.Fitting.{WorksFit, FromRules}
use Rattle.rv_laws.specs.SingleWriter.{IsByCpu}
use Rattle.rv_tool.specs.declared.input.Prepared.{Prepared}
use Rattle.rv_tool.specs.Inputs.{InputValue, setup_of, HasCpus}

-- the bindings, what each CPU has to do and the changes, as the files gave them
abbrev pub prepared_value : Prepared → InputValue
prepared_value r = record {
  bound = record { containers = r.bindings.containers; monitors = r.bindings.monitors.items; rules = r.bindings.rules.items; items = r.bindings.items.items; tables = r.setup.tables };
  routed = record { tasks = r.tasks; works = works_of r.lanes.items };
  changes = r.changes.items;
}

-- the setup and the reactors are the bindings', the tables mean the specifications, the lanes fit and ascend by CPU, each CPU delivers to its own instance of a monitor by CPU, and no change halts; the tables are the monitors', which the works fit, and each delivery is one of a rule
pub record IsPrepared (r : Prepared) : Type 0 where
  pub setup : r.setup ≡ setup_of (prepared_value r).bound (length r.tasks)
  pub reactors : r.reactors.items ≡ map (λ m. m.reactor) r.bindings.monitors.items
  pub mean : AllMean (map (λ m. m.spec) r.bindings.monitors.items) r.setup.tables
  pub lanes : FitLanes r.setup r.lanes.items
  pub ascend : AllPairs (λ l m. l.work.cpu < m.work.cpu) r.lanes.items
  pub by_cpu : (place : ℕ) → HasCpus r.bindings.monitors.items place → IsByCpu (works_of r.lanes.items) place
  pub below_halt : All IsBelowHalt r.changes.items
  pub few_monitors : length r.bindings.monitors.items ≤ 32
  pub few_containers : length r.bindings.containers ≤ 32
  pub tables : HaveTables (kinds_of r.bindings.monitors.items) r.setup.tables
  pub routed : WorksFit (kinds_of r.bindings.monitors.items) (length r.tasks) (works_of r.lanes.items)
  pub rules : FromRules r.bindings.rules.items (works_of r.lanes.items)
