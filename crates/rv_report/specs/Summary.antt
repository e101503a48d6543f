-- The numbers that a monitor's line of the report tells.
use Rattle.std.specs.Prelude.{◌≡◌, ℕ, ◌&&◌, List, count_by}
use Rattle.rv_model.specs.declared.record.Record.{Record}
use Rattle.rv_model.specs.declared.record.Task.{Task}
use Rattle.rv_model.specs.Records.{is_failure, is_stopped}
use Rattle.rv_model.specs.Reports.{Reported, instance_count, instances_in, is_of_monitor}
use Rattle.rv_report.specs.declared.summary.Summary.{Summary}

-- they are those of this monitor over these records
pub record IsSummary (tasks : List Task) (rs : List Record) (monitor : ℕ) (m : Reported) (s : Summary) : Type 0 where
  pub instances : s.instances ≡ instance_count monitor rs (instances_in tasks m.scope)
  pub deliveries : s.deliveries ≡ count_by (is_of_monitor monitor) rs
  pub failures : s.failures ≡ count_by (λ r. is_of_monitor monitor r && is_failure r) rs
  pub stopped : s.stopped ≡ count_by (λ r. is_of_monitor monitor r && is_stopped r) rs
