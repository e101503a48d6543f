-- What a run on one thread begins with: the deliveries of the trace as one list.
use Rattle.std.specs.Prelude.{◌≡◌, [], length, map}
use Rattle.rv_core.specs.Judged.{AllMean}
use Rattle.rv_replay.specs.Lists.{FitsList}
use Rattle.rv_route.specs.Listing.{works_listed}
use Rattle.rv_tool.specs.declared.listed.PreparedList.{PreparedList}
use Rattle.rv_tool.specs.Inputs.{InputValue, setup_of}

-- the bindings and the works of the list, as the files gave them; nothing changes beside them
abbrev pub listed_value : PreparedList → InputValue
listed_value r = record {
  bound = record { containers = r.bindings.containers; monitors = r.bindings.monitors.items; rules = r.bindings.rules.items; items = r.bindings.items.items; tables = r.setup.tables };
  routed = record { tasks = r.tasks; works = works_listed r.list };
  changes = [];
}

-- the setup and the reactors are the bindings', the tables mean the specifications, and the list fits the setup
pub record IsPreparedList (r : PreparedList) : Type 0 where
  pub setup : r.setup ≡ setup_of (listed_value r).bound (length r.tasks)
  pub reactors : r.reactors.items ≡ map (λ m. m.reactor) r.bindings.monitors.items
  pub mean : AllMean (map (λ m. m.spec) r.bindings.monitors.items) r.setup.tables
  pub fits : FitsList r.setup r.list
