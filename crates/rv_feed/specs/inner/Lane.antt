-- A lane that gains records.
use Rattle.std.specs.Prelude.{◌≡◌, ◌≤◌, List, ◌++◌}
use Rattle.rv_model.specs.declared.record.Record.{Record}
use Rattle.rv_feed.specs.Lane.{LaneValue}

-- the lane has the records `rs` more, and the work that it had
pub record AddsRecords (lane lane' : LaneValue) (rs : List Record) : Type 0 where
  pub work_is : lane'.work ≡ lane.work
  pub records_are : lane'.records ≡ lane.records ++ rs
  pub room : lane.room ≤ lane'.room
