-- What is ready for a run of which one slot is watched.
use Rattle.std.specs.Prelude.{◌≡◌, ◌<◌, [], sum}
use Rattle.rv_tool.specs.declared.watch.PreparedWatch.{PreparedWatch}
use Rattle.rv_tool.specs.inner.Prepared.{IsPrepared, prepared_value}
use Rattle.rv_tool.specs.Watched.{WatchValue}

-- ---- what is read

-- the input of the run, and the slot that is watched
abbrev pub watch_value : PreparedWatch → WatchValue
watch_value w = record { input = prepared_value w.ready; slot = w.slot }

-- it is ready, nothing changes beside the CPUs, and the slot is the setup's
pub record IsPreparedWatch (w : PreparedWatch) : Type 0 where
  pub ready : IsPrepared w.ready
  pub unchanged : w.ready.changes.items ≡ []
  pub slot : w.slot < sum w.ready.setup.shape
