-- The walk over a list, between two of its turns and behind the last.
use Rattle.std.specs.Prelude.{◌≡◌, ℕ, ◌<◌, ◌≤◌, Bool, true, false, List, length, take, All, slice_index_or}
use Rattle.rv_model.specs.declared.record.Record.{Record}
use Rattle.rv_model.specs.declared.record.Task.{Task}
use Rattle.rv_model.specs.Records.{records_with, sort_records}
use Rattle.rv_core.specs.Core.{CoreValue}
use Rattle.rv_feed.specs.Lane.{LaneValue, lane_records}
use Rattle.rv_feed.specs.Order.{Ran}
use Rattle.rv_feed.specs.inner.SoFar.{RunSoFar, next_turn_of}
use Rattle.rv_route.specs.Listing.{ListedDelivery, works_listed}
use Rattle.rv_replay.specs.inner.Own.{own}
use Rattle.rv_replay.specs.Lists.{fresh_lanes}
use Rattle.rv_replay.specs.Observing.{ObservesMore}
use Rattle.rv_replay.specs.inner.Turns.{OrdersFrom}

-- a lane whose script has ended has no next turn; else its next turn is the one behind those of the deliveries before `at`
pub record Stands (list : List ListedDelivery) (at : ℕ) (ended : List Bool) (places : List ℕ) (lane : LaneValue) : Type 0 where
  pub past : slice_index_or ended lane.work.cpu false ≡ true → next_turn_of places lane ≡ length lane.work.turns
  pub next : slice_index_or ended lane.work.cpu false ≡ false → next_turn_of places lane ≡ length (own lane.work.cpu (take at list)).turns

-- the turns of the deliveries before `at` were played, and observed
pub record WalkSoFar {O : Type 0} (observed : List Task → CoreValue → List Record → O → Type 0) (panics : ℕ → Bool) (old cur : CoreValue) (list : List ListedDelivery) (ended : List Bool) (at : ℕ) (o o' : O) : Type 0 where
  pub rs : List Record
  pub observes : ObservesMore observed rs old cur o o'
  pub orders : OrdersFrom 0 at rs
  pub lanes : List LaneValue
  pub places : List ℕ
  pub line : ℕ
  pub run : RunSoFar panics old cur (fresh_lanes (works_listed list)) lanes places line
  pub later : (k : ℕ) (d : ListedDelivery) → at ≤ k → k < length list → line ≤ (slice_index_or list k d).line
  pub apart : (k j : ℕ) (d : ListedDelivery) → k < at → at ≤ j → j < length list → (slice_index_or list k d).line < (slice_index_or list j d).line
  pub stand : All (Stands list at ended places) lanes
  pub kept : (order : ℕ) → records_with order rs ≡ records_with order (lane_records lanes)
  pub below : All (λ l. All (λ r. r.order < at) l.records) lanes

-- all turns were played, and observed with their records in their order
pub record WalksList {O : Type 0} (observed : List Task → CoreValue → List Record → O → Type 0) (panics : ℕ → Bool) (old new : CoreValue) (list : List ListedDelivery) (o o' : O) : Type 0 where
  pub rs : List Record
  pub observes : ObservesMore observed rs old new o o'
  pub lanes : List LaneValue
  pub ran : Ran panics old new (fresh_lanes (works_listed list)) lanes
  pub sorted : rs ≡ sort_records (lane_records lanes)
