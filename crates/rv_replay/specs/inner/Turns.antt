-- One turn of the list, and what is observed of it.
use Rattle.std.specs.Prelude.{◌≡◌, ℕ, ◌+◌, ◌-◌, ◌<◌, ◌≤◌, Bool, List, ◌++◌, length, All, AllPairs, slice_index_or}
use Rattle.rv_model.specs.declared.record.Record.{Record}
use Rattle.rv_model.specs.declared.record.Task.{Task}
use Rattle.rv_model.specs.declared.work.Delivery.{Delivery}
use Rattle.rv_model.specs.declared.work.Turn.{Turn}
use Rattle.rv_core.specs.Core.{CoreValue}
use Rattle.rv_feed.specs.Lane.{LaneValue}
use Rattle.rv_feed.specs.Turns.{Did}
use Rattle.rv_feed.specs.inner.Turns.{PartDone, PlaysTurn}
use Rattle.rv_route.specs.Listing.{ListedDelivery}
use Rattle.rv_replay.specs.Observing.{ObservesMore}

-- the turn of the lane is that of the deliveries of the list from one place to another, and of their line
pub record IsTurnOf (list : List ListedDelivery) (from to : ℕ) (lane : LaneValue) (turn : Turn) : Type 0 where
  pub line : (d : ListedDelivery) → turn.line ≡ (slice_index_or list from d).line
  pub to_is : turn.to ≡ turn.from + (to - from)
  pub in_list : turn.to ≤ length lane.work.deliveries
  pub each : (k : ℕ) (any : Delivery) (d : ListedDelivery) → k < to - from → slice_index_or lane.work.deliveries (turn.from + k) any ≡ (slice_index_or list (from + k) d).delivery

-- the orders ascend, from one number on and below another
pub record OrdersFrom (from to : ℕ) (rs : List Record) : Type 0 where
  pub low : All (λ r. from ≤ r.order) rs
  pub high : All (λ r. r.order < to) rs
  pub ascend : AllPairs (λ r u. r.order < u.order) rs

-- the lane with these records too
abbrev pub with_records : LaneValue → List Record → LaneValue
with_records lane rs = record lane { records = lane.records ++ rs }

-- of a turn, the CPU made the look and those deliveries before the place `at` that the look enables, whatever lane has the turn; and this was observed
pub record PartListed {O : Type 0} (observed : List Task → CoreValue → List Record → O → Type 0) (panics : ℕ → Bool) (cpu : ℕ) (old cur : CoreValue) (word : ℕ) (list : List ListedDelivery) (from to at : ℕ) (o o' : O) : Type 0 where
  pub rs : List Record
  pub observes : ObservesMore observed rs old cur o o'
  pub orders : OrdersFrom from at rs
  pub same_setup : cur.setup ≡ old.setup
  pub done : (lane : LaneValue) (turn : Turn) → IsTurnOf list from to lane turn → PartDone (Did (2 + cpu)) old.setup panics old cur word turn lane (with_records lane rs) (turn.from + (at - from))

-- whatever lane has the turn, its CPU played it, to its end or to that of the script; and this was observed
pub record PlaysListed {O : Type 0} (observed : List Task → CoreValue → List Record → O → Type 0) (panics : ℕ → Bool) (cpu : ℕ) (old new : CoreValue) (list : List ListedDelivery) (from to : ℕ) (o o' : O) (ends : Bool) : Type 0 where
  pub rs : List Record
  pub observes : ObservesMore observed rs old new o o'
  pub orders : OrdersFrom from to rs
  pub plays : (lane : LaneValue) (turn : Turn) → IsTurnOf list from to lane turn → PlaysTurn (Did (2 + cpu)) old.setup panics old new turn lane (with_records lane rs) ends
