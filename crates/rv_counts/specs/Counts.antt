-- All numbers of a run: those of a monitor by their definitions over the one history, those of rules and of the trace over the lines.
use Rattle.std.specs.Prelude.{◌≡◌, ℕ, ◌-◌, ◌<◌, not, ◌&&◌, Bool, false, List, length, map, count_by, sum, slice_get, slice_index, slice_index_or, option_map, if◌then◌else◌}
use Rattle.std.specs.Option.{option_map_or}
use Rattle.rv_model.specs.declared.entry.Entry.{Entry}
use Rattle.rv_model.specs.declared.record.Record.{Record}
use Rattle.rv_model.specs.declared.record.Task.{Task}
use Rattle.rv_model.specs.Histories.{Input}
use Rattle.rv_model.specs.Judging.{Judge}
use Rattle.rv_model.specs.Records.{is_failure, is_stopped, records_of}
use Rattle.rv_model.specs.Reports.{instance_count, instances_in, is_of_monitor}
use Rattle.rv_model.specs.Scripts.{fails}
use Rattle.rv_model.specs.Setups.{Setup}
use Rattle.rv_text.specs.TextLines.{lines_of}
use Rattle.rv_bind.specs.declared.bindings.Monitor.{Monitor}
use Rattle.rv_bind.specs.RuleValues.{OnValue}
use Rattle.rv_bind.specs.Values.{BoundValue}
use Rattle.rv_matches.specs.LineEvents.{LineEvent}
use Rattle.rv_matches.specs.RuleLines.{fired}
use Rattle.rv_facts.specs.declared.counts.Counts.{Counts}
use Rattle.rv_facts.specs.declared.counts.Halt.{Halt}
use Rattle.rv_facts.specs.declared.counts.MonitorCounts.{MonitorCounts}
use Rattle.rv_reach.specs.Counts.{atoms_true, edges_taken, rows_reached}
use Rattle.rv_reach.specs.Reached.{answered, ended, instances_answered, instances_running, is_kept, is_passed, is_started, letters_judged}
use Rattle.rv_report.specs.Halts.{halt_of}
use Rattle.rv_report.specs.Reported.{reported}
use Rattle.rv_report.specs.declared.halt.Halted.{Halted}
use Rattle.rv_counts.specs.RuleTold.{TellsRules}
use Rattle.rv_counts.specs.TraceTold.{TellsTrace}
use Rattle.rv_counts.specs.Watching.{events_in}

-- ---- what is counted

-- the bindings and the tasks of a run, the run that they make, judges of its specifications, and a history of it
pub record JudgedRun : Type 0 where
  pub bound : BoundValue
  pub tasks : List Task
  pub input : Input
  pub judges : List Judge
  pub history : List Entry

-- the setup with which the run begins
abbrev pub setup_in : JudgedRun → Setup
setup_in run = run.input.setup

-- the records of its deliveries
abbrev pub run_records : JudgedRun → List Record
run_records run = records_of run.input run.judges run.history

-- ---- a monitor

-- what the history is to the monitor at a place: what the report tells of it, its answers and instances, and what its deliveries reach
pub record TellsMonitor (run : JudgedRun) (place : ℕ) (m : Monitor) (c : MonitorCounts) : Type 0 where
  pub instances : c.instances ≡ instance_count place (run_records run) (instances_in run.tasks m.scope)
  pub deliveries : c.deliveries ≡ count_by (is_of_monitor place) (run_records run)
  pub failures : c.failures ≡ count_by (λ r. is_of_monitor place r && is_failure r) (run_records run)
  pub stopped : c.stopped ≡ count_by (λ r. is_of_monitor place r && is_stopped r) (run_records run)
  pub instances_started : c.instances_started ≡ instances_answered (setup_in run) run.judges run.history (λ answer. not (is_passed answer)) place (slice_index (setup_in run).shape place)
  pub instances_failed : c.instances_failed ≡ instances_answered (setup_in run) run.judges run.history fails place (slice_index (setup_in run).shape place)
  pub instances_running : c.instances_running ≡ instances_running (setup_in run) run.judges run.history place (slice_index (setup_in run).shape place)
  pub passed : c.passed ≡ answered (setup_in run) run.judges run.history is_passed place
  pub started : c.started ≡ answered (setup_in run) run.judges run.history is_started place
  pub kept : c.kept ≡ answered (setup_in run) run.judges run.history is_kept place
  pub failed : c.failed ≡ answered (setup_in run) run.judges run.history fails place
  pub ended : c.ended ≡ ended (setup_in run) run.history place
  pub rows : c.rows.items ≡ rows_reached (setup_in run) run.judges run.history place
  pub edges : c.edges.items ≡ edges_taken (setup_in run) run.judges run.history place m.spec
  pub letters : c.letters ≡ letters_judged (setup_in run) run.judges run.history place
  pub atoms : c.atoms.items ≡ atoms_true (setup_in run) run.judges run.history place m.spec

-- so it is for all monitors of the bindings
pub record TellsMonitors (run : JudgedRun) (counts : List MonitorCounts) : Type 0 where
  pub many : length counts ≡ length run.bound.monitors
  pub each : (k : ℕ) (m : Monitor) (c : MonitorCounts) → k < length counts → TellsMonitor run k (slice_index_or run.bound.monitors k m) (slice_index_or counts k c)

-- ---- the halt

-- where the run was halted, as it is told
abbrev pub halt_told : Halted → Halt
halt_told halted = record { line = halted.line; monitor = halted.monitor }

-- the monitor at a place is enabled
abbrev pub is_enabled : List Monitor → ℕ → Bool
is_enabled monitors place = option_map_or (λ m. m.enabled) (slice_get monitors place) false

-- on how many of the events the rule fires, if its monitor is enabled
abbrev pub fired_if : List Monitor → List LineEvent → OnValue → ℕ
fired_if monitors events rule = if is_enabled monitors rule.monitor then fired events rule else 0

-- the firings of rules of enabled monitors that are no delivery and no end of the history
abbrev pub undelivered : JudgedRun → List LineEvent → ℕ
undelivered run events = sum (map (fired_if run.bound.monitors events) run.bound.rules) - length (run_records run)

-- ---- all of them

-- the numbers are those of the run, whose trace has this text
pub record TellsRun (run : JudgedRun) (trace : List ℕ) (c : Counts) : Type 0 where
  pub monitors : TellsMonitors run c.monitors.items
  pub rules : TellsRules (events_in (lines_of trace)) run.bound.rules c.rules.items
  pub of_trace : TellsTrace run.bound.rules (lines_of trace) c.trace
  pub halt : c.halt ≡ option_map halt_told (halt_of (map (reported run.bound.containers) run.bound.monitors) (run_records run))
  pub undelivered : c.undelivered ≡ undelivered run (events_in (lines_of trace))
