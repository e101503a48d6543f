-- No deliveries were counted of each monitor so far.
use Rattle.std.proofs.Common.{◌≡◌, ℕ, ◌<◌, [], length, get_or}
use Rattle.rv_bind.specs.declared.bindings.Monitor.{Monitor}
use Rattle.rv_reach.specs.declared.monitor.MonitorReach.{MonitorReach}
use Rattle.rv_reach.specs.Watching.{IsReach}
use Rattle.rv_reach.proofs.reached.Reached.new.Given as goal

abbrev pub invariant-loop-place : goal.invariant-loop-place
invariant-loop-place l = record {
  many : length l.monitors.items ≡ l.place;
  each : (k : ℕ) (any : MonitorReach) → k < l.place → (m : Monitor) → IsReach (record { setup = l.setup; history = [] }) k (get_or l.bindings.monitors.items k m).spec (get_or l.monitors.items k any);
}
