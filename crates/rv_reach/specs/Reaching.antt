-- What the deliveries of a whole run have reached, each number by its definition over the one history.
use Rattle.std.specs.Prelude.{◌≡◌, ℕ, ◌<◌, Bool, not, List, [], length, count_by, slice_index, slice_index_or}
use Rattle.rv_model.specs.declared.entry.Entry.{Entry}
use Rattle.rv_model.specs.declared.formula.Spec.{Spec}
use Rattle.rv_model.specs.declared.record.Record.{Record}
use Rattle.rv_model.specs.declared.record.Task.{Task}
use Rattle.rv_model.specs.Histories.{IsOneHistory}
use Rattle.rv_model.specs.Judging.{Judge}
use Rattle.rv_model.specs.Records.{sort_records}
use Rattle.rv_model.specs.Scripts.{fails}
use Rattle.rv_model.specs.Setups.{Setup}
use Rattle.rv_bind.specs.declared.bindings.Bindings.{Bindings}
use Rattle.rv_bind.specs.declared.bindings.Monitor.{Monitor}
use Rattle.rv_core.specs.Judged.{AllMean, JudgesBySpecs}
use Rattle.rv_core.specs.Setup.{judges_of}
use Rattle.rv_feed.specs.Runs.{IsRunBySpecs}
use Rattle.rv_report.specs.Reported.{reported_of}
use Rattle.rv_report.specs.Tallies.{IsFound}
use Rattle.rv_route.specs.Listing.{ListedDelivery, works_listed}
use Rattle.rv_replay.specs.Observing.{IsRunByTables}
use Rattle.rv_reach.specs.declared.monitor.MonitorReach.{MonitorReach}
use Rattle.rv_reach.specs.declared.reached.Reached.{Reached}
use Rattle.rv_reach.specs.declared.run.ReachedRun.{ReachedRun}
use Rattle.rv_reach.specs.Counts.{atoms_true, edges_taken, rows_reached}
use Rattle.rv_reach.specs.Reached.{answered, ended, instances_answered, instances_running, is_kept, is_passed, is_started, letters_judged}

-- the numbers of a monitor with this specification are those of the history
pub record HasReached (s : Setup) (js : List Judge) (h : List Entry) (monitor : ℕ) (of : Spec) (r : MonitorReach) : Type 0 where
  pub passed : r.passed ≡ answered s js h is_passed monitor
  pub started : r.started ≡ answered s js h is_started monitor
  pub kept : r.kept ≡ answered s js h is_kept monitor
  pub failed : r.failed ≡ answered s js h fails monitor
  pub ended : r.ended ≡ ended s h monitor
  pub letters : r.letters ≡ letters_judged s js h monitor
  pub instances_started : count_by (λ i. i.started) r.instances.items ≡ instances_answered s js h (λ answer. not (is_passed answer)) monitor (slice_index s.shape monitor)
  pub instances_failed : count_by (λ i. i.failed) r.instances.items ≡ instances_answered s js h fails monitor (slice_index s.shape monitor)
  pub instances_running : count_by (λ i. i.running) r.instances.items ≡ instances_running s js h monitor (slice_index s.shape monitor)
  pub rows : r.rows.items ≡ rows_reached s js h monitor
  pub edges : r.edges.items ≡ edges_taken s js h monitor of
  pub atoms : r.atoms.items ≡ atoms_true s js h monitor of

-- so are those of all monitors of the bindings
pub record HaveReached (b : Bindings) (s : Setup) (js : List Judge) (h : List Entry) (r : Reached) : Type 0 where
  pub many : length r.monitors.items ≡ length b.monitors.items
  pub each : (k : ℕ) (m : Monitor) (any : MonitorReach) → k < length b.monitors.items → HasReached s js h k (slice_index_or b.monitors.items k m).spec (slice_index_or r.monitors.items k any)

-- by judges of the specifications, such as the tables, this is the one history of the works of the list, its records were
-- counted, what they come to was found, and by the tables its deliveries have reached what was counted. The setup is as it was
pub record ReachesList (b : Bindings) (tasks : List Task) (setup : Setup) (panics : ℕ → Bool) (list : List ListedDelivery) (run : ReachedRun) : Type 0 where
  pub rs : List Record
  pub ascend : rs ≡ sort_records rs
  pub setup_is : run.setup ≡ setup
  pub judges : JudgesBySpecs setup
  pub is_run : IsRunBySpecs IsOneHistory setup panics (works_listed list) [] rs run.closed
  pub by_tables : (specs : List Spec) → AllMean specs setup.tables → IsRunByTables setup panics (works_listed list) specs rs run.closed
  pub records_many : run.watched.records ≡ length rs
  pub is_found : IsFound (reported_of b) tasks rs run.watched.found
  pub have_reached : HaveReached b setup (judges_of setup) run.closed run.watched.reached
