-- What a run has kept is that of the run: what was found and reached of its deliveries, and what was kept of its lines.
use Rattle.std.specs.Prelude.{◌≡◌, ℕ, List, length}
use Rattle.rv_text.specs.TextLines.{lines_of}
use Rattle.rv_bind.specs.declared.bindings.Bindings.{Bindings}
use Rattle.rv_reach.specs.declared.reached.Reached.{Reached}
use Rattle.rv_reach.specs.Reaching.{HaveReached}
use Rattle.rv_report.specs.Reported.{reported_of}
use Rattle.rv_report.specs.Tallies.{FoundValue, IsFound}
use Rattle.rv_counts.specs.declared.watch.TraceWatch.{TraceWatch}
use Rattle.rv_counts.specs.Counts.{JudgedRun, run_records, setup_in}
use Rattle.rv_counts.specs.Watching.{IsWatch}

-- what was found and reached is that of the run, whose monitors are those of the bindings
pub record AreOfRun (bindings : Bindings) (run : JudgedRun) (f : FoundValue) (r : Reached) : Type 0 where
  pub monitors : run.bound.monitors ≡ bindings.monitors.items
  pub found : IsFound (reported_of bindings) run.tasks (run_records run) f
  pub reached : HaveReached bindings (setup_in run) run.judges run.history r

-- so is all that was kept of it, and its trace has this text
pub record IsKeptOf (bindings : Bindings) (run : JudgedRun) (trace : List ℕ) (w : TraceWatch) (f : FoundValue) (r : Reached) (n : ℕ) : Type 0 where
  pub monitors : AreOfRun bindings run f r
  pub containers : run.bound.containers ≡ bindings.containers
  pub rules : run.bound.rules ≡ bindings.rules.items
  pub watch : IsWatch bindings (lines_of trace) w
  pub records : n ≡ length (run_records run)
