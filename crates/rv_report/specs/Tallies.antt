-- What records come to: a tally for each monitor, those whose reaction is printed, and the exit status.
use Rattle.std.specs.Prelude.{◌≡◌, ℕ, ◌<◌, ◌&&◌, Bool, false, List, [], ◌++◌, map, length, filter, count_by, slice_index_or}
use Rattle.std.specs.List.{list_any}
use Rattle.rv_model.specs.declared.record.Record.{Record}
use Rattle.rv_model.specs.declared.record.Task.{Task}
use Rattle.rv_model.specs.Records.{is_failure, is_stopped, status_of}
use Rattle.rv_model.specs.Reports.{Reported, instances_in, is_of_monitor, is_at}
use Rattle.rv_report.specs.declared.tally.Tally.{Tally}
use Rattle.rv_report.specs.Printed.{has_reaction, is_printed}

-- the tally of a monitor with so many instances over these records
pub record IsTally (monitor instances : ℕ) (rs : List Record) (t : Tally) : Type 0 where
  pub many : length t.seen.items ≡ instances
  pub seen : (k : ℕ) → k < instances → slice_index_or t.seen.items k false ≡ list_any (is_at monitor k) rs
  pub deliveries : t.deliveries ≡ count_by (is_of_monitor monitor) rs
  pub failures : t.failures ≡ count_by (λ r. is_of_monitor monitor r && is_failure r) rs
  pub stopped : t.stopped ≡ count_by (λ r. is_of_monitor monitor r && is_stopped r) rs

-- a tally as a plain value
pub record TallyValue : Type 0 where
  pub seen : List Bool
  pub deliveries : ℕ
  pub failures : ℕ
  pub stopped : ℕ

-- the marks and the counts
abbrev pub tally_value : Tally → TallyValue
tally_value t = record { seen = t.seen.items; deliveries = t.deliveries; failures = t.failures; stopped = t.stopped }

-- the tally of a monitor over these records, with a mark for every instance that has one
pub record IsWholeTally (monitor : ℕ) (rs : List Record) (t : TallyValue) : Type 0 where
  pub seen : (k : ℕ) → slice_index_or t.seen k false ≡ list_any (is_at monitor k) rs
  pub deliveries : t.deliveries ≡ count_by (is_of_monitor monitor) rs
  pub failures : t.failures ≡ count_by (λ r. is_of_monitor monitor r && is_failure r) rs
  pub stopped : t.stopped ≡ count_by (λ r. is_of_monitor monitor r && is_stopped r) rs

-- no instance is marked, and nothing is counted
abbrev pub no_tally : TallyValue
no_tally = record { seen = []; deliveries = 0; failures = 0; stopped = 0 }

-- a monitor's tally, which is empty past the last one
abbrev pub tally_at : List Tally → ℕ → TallyValue
tally_at ts monitor = slice_index_or (map tally_value ts) monitor no_tally

-- the tallies of all monitors
pub record AreTallies (monitors : List Reported) (tasks : List Task) (rs : List Record) (ts : List Tally) : Type 0 where
  pub many : length ts ≡ length monitors
  pub each : (k : ℕ) (m : Reported) (t : Tally) → k < length monitors → IsTally k (instances_in tasks (slice_index_or monitors k m).scope) rs (slice_index_or ts k t)

-- what is kept of records: the tallies, some of the records, and a status
pub record FoundValue : Type 0 where
  pub tallies : List Tally
  pub printed : List Record
  pub status : ℕ

-- the tallies of these records, those of them whose reaction is printed, and their status
pub record IsFound (monitors : List Reported) (tasks : List Task) (rs : List Record) (f : FoundValue) : Type 0 where
  pub tallies : AreTallies monitors tasks rs f.tallies
  pub printed : f.printed ≡ filter (is_printed monitors) rs
  pub status : f.status ≡ status_of rs

-- the tallies of these records, those of them that have a reaction, and their status
pub record IsDigest (rs : List Record) (f : FoundValue) : Type 0 where
  pub tallies : (monitor : ℕ) → IsWholeTally monitor rs (tally_at f.tallies monitor)
  pub printed : f.printed ≡ filter has_reaction rs
  pub status : f.status ≡ status_of rs

-- what was found of any records becomes what is found of these and more
abbrev pub FindsMore : List Reported → List Record → FoundValue → FoundValue → Type 0
FindsMore monitors more old new = (tasks : List Task) (rs : List Record) → IsFound monitors tasks rs old → IsFound monitors tasks (rs ++ more) new
