-- What is counted of a run delivery by delivery: after each entry it is that of the history so far.
use Rattle.std.specs.Prelude.{◌≡◌, ℕ, ◌+◌, ◌<◌, not, [], length, slice_index, slice_index_or}
use Rattle.rv_model.specs.declared.automaton.Edge.{Edge}
use Rattle.rv_model.specs.declared.formula.Spec.{Spec}
use Rattle.rv_model.specs.Setups.{slot_of}
use Rattle.rv_model.specs.Scripts.{fails}
use Rattle.rv_model.specs.Table.{of_labels}
use Rattle.rv_bind.specs.declared.bindings.Bindings.{Bindings}
use Rattle.rv_bind.specs.declared.bindings.Monitor.{Monitor}
use Rattle.rv_core.specs.Core.{CoreValue}
use Rattle.rv_core.specs.RowPhases.{phase_at}
use Rattle.rv_core.specs.Setup.{judges_of}
use Rattle.rv_table.specs.Rows.{row_count}
use Rattle.rv_reach.specs.declared.monitor.InstanceReach.{InstanceReach}
use Rattle.rv_reach.specs.declared.monitor.MonitorReach.{MonitorReach}
use Rattle.rv_reach.specs.declared.reached.Reached.{Reached}
use Rattle.rv_reach.specs.Counting.{any_at}
use Rattle.rv_reach.specs.Counts.{atom_count, edges_of}
use Rattle.rv_reach.specs.Reached.{answered, answers_on, atom_true, edge_taken, ended, is_kept, is_passed, is_running, is_started, letters_judged, row_reached}

-- an instance, by its slot
pub record IsInstance (core : CoreValue) (slot : ℕ) (i : InstanceReach) : Type 0 where
  pub started : i.started ≡ any_at (answers_on core.setup (judges_of core.setup) (λ answer. not (is_passed answer)) slot) core.history
  pub failed : i.failed ≡ any_at (answers_on core.setup (judges_of core.setup) fails slot) core.history
  pub running : i.running ≡ is_running (phase_at core slot)

-- a monitor with this specification
pub record IsReach (core : CoreValue) (monitor : ℕ) (of : Spec) (r : MonitorReach) : Type 0 where
  pub passed : r.passed ≡ answered core.setup (judges_of core.setup) core.history is_passed monitor
  pub started : r.started ≡ answered core.setup (judges_of core.setup) core.history is_started monitor
  pub kept : r.kept ≡ answered core.setup (judges_of core.setup) core.history is_kept monitor
  pub failed : r.failed ≡ answered core.setup (judges_of core.setup) core.history fails monitor
  pub ended : r.ended ≡ ended core.setup core.history monitor
  pub letters : r.letters ≡ letters_judged core.setup (judges_of core.setup) core.history monitor
  pub instances_many : length r.instances.items ≡ slice_index core.setup.shape monitor
  pub instances : (k : ℕ) (i : InstanceReach) → k < length r.instances.items → IsInstance core (slot_of core.setup.shape monitor k) (slice_index_or r.instances.items k i)
  pub rows_many : length r.rows.items + 1 ≡ row_count (slice_index_or core.setup.tables monitor (of_labels []))
  pub rows : (k : ℕ) → k < length r.rows.items → slice_index r.rows.items k ≡ row_reached core.setup (judges_of core.setup) core.history monitor (k + 1)
  pub edges_many : length (edges_of of) ≡ length r.edges.items
  pub edges : (k : ℕ) (none : Edge) → k < length r.edges.items → slice_index r.edges.items k ≡ edge_taken core.setup (judges_of core.setup) core.history monitor (slice_index_or (edges_of of) k none)
  pub atoms_many : length r.atoms.items ≡ atom_count of
  pub atoms : (k : ℕ) → k < length r.atoms.items → slice_index r.atoms.items k ≡ atom_true core.setup (judges_of core.setup) core.history monitor k

-- all monitors of the bindings
pub record AreReached (b : Bindings) (core : CoreValue) (r : Reached) : Type 0 where
  pub bound : length b.monitors.items ≡ length core.setup.shape
  pub many : length r.monitors.items ≡ length core.setup.shape
  pub each : (k : ℕ) (m : Monitor) (any : MonitorReach) → k < length core.setup.shape → IsReach core k (slice_index_or b.monitors.items k m).spec (slice_index_or r.monitors.items k any)
