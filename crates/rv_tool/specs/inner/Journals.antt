-- Which runs can be recorded as a journal.
use Rattle.std.specs.List.{list_any}
use Rattle.std.specs.Prelude.{◌≡◌, true, false, []}
use Rattle.rv_tool.specs.declared.input.Prepared.{Prepared}
use Rattle.rv_tool.specs.CountsFit.{monitors_fit_counts}
use Rattle.rv_tool.specs.inner.Prepared.{IsPrepared}
use Rattle.rv_tool.specs.Journals.{ends_instances}

-- ---- what is read

-- it is ready, nothing changes beside the CPUs, its monitors are narrow, and no rule ends an instance
pub record IsRecordable (r : Prepared) : Type 0 where
  pub ready : IsPrepared r
  pub unchanged : r.changes.items ≡ []
  pub narrow : monitors_fit_counts r.bindings.monitors.items r.setup.tables ≡ true
  pub no_ends : list_any ends_instances r.bindings.rules.items ≡ false
