-- The monitors so far are told, and the others are left.
use Rattle.std.proofs.Common.{◌≡◌, ◌<◌, ◌≤◌, ℕ, length, get_or, drop}
use Rattle.std.specs.Vec.Iter.{into_iter_items}
use Rattle.rv_bind.specs.declared.bindings.Bindings.{Bindings}
use Rattle.rv_bind.specs.declared.bindings.Monitor.{Monitor}
use Rattle.rv_facts.specs.declared.counts.MonitorCounts.{MonitorCounts}
use Rattle.rv_counts.specs.Counts.{JudgedRun, TellsMonitor}
use Rattle.rv_counts.specs.KeptRun.{AreOfRun}
use Rattle.rv_counts.proofs.counting.monitors_counts.Given as goal

abbrev pub invariant-loop-reach : goal.invariant-loop-reach
invariant-loop-reach l = record {
  within : length l.counts.items ≤ length l.fn.reached.monitors.items;
  left : drop (length l.counts.items) l.fn.reached.monitors.items ≡ into_iter_items l.reach-iterator;
  each : (bindings : Bindings) (run : JudgedRun) → AreOfRun bindings run l.found l.fn.reached → (k : ℕ) (c : MonitorCounts) → k < length l.counts.items → (m : Monitor) → TellsMonitor run k (get_or run.bound.monitors k m) (get_or l.counts.items k c);
}
