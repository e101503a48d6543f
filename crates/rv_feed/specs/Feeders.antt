-- What feeders and the control actor's changer begin with, and what running them comes to.
use Rattle.std.specs.Prelude.{◌≡◌, ℕ, ◌+◌, Bool, All, Option, None, Some}
use Rattle.std.proofs.Common.{◌⊎◌, inl, inr}
use denote.MutBor.{MutBor}
use Rattle.rv_model.specs.Scripts.{control_acts}
use Rattle.rv_board.specs.Seats.{BoardId, SeatValue}
use Rattle.rv_feed.specs.declared.changer.Changer.{Changer}
use Rattle.rv_feed.specs.declared.feeder.Feeder.{Feeder}
use Rattle.rv_feed.specs.Changes.{CanChange, IsBelowHalt, DoesAll}
use Rattle.rv_feed.specs.Feeding.{CanFeed, Feeds}
use Rattle.rv_feed.specs.Lane.{LaneValue}

-- the seat is the CPU's on this board, and the lane is new and fits the board
pub record FitsSeat (board : BoardId) (seat : SeatValue) (lane : LaneValue) : Type 0 where
  pub board_is : seat.board ≡ board
  pub seat_is : seat.part.number ≡ 2 + lane.work.cpu
  pub lane_fits : CanFeed board lane

module _ {G : Type 0} where
  -- the feeder's seat and its lane do so
  abbrev pub FitsFeeder : BoardId → Feeder G LaneValue → Type 0
  FitsFeeder board f = FitsSeat board f.seat f.lane

  -- the feeder's seat and records grow by a script of its lane's work
  abbrev pub RunsFeeder : (ℕ → Bool) → Feeder G LaneValue → Feeder G LaneValue → Type 0
  RunsFeeder panics old new = Feeds panics old.seat new.seat old.lane new.lane

  -- the seat is the control actor's on this board, and no change names a switch from the halted one on
  pub record FitsChanger (board : BoardId) (c : Changer G) : Type 0 where
    pub seat_is : CanChange board c.seat
    pub below_halt : All IsBelowHalt c.changes.items

  -- the changer's seat grows by the acts of its changes, and the changes are as before
  pub record RunsChanger (old new : Changer G) : Type 0 where
    pub does : DoesAll old.seat new.seat (control_acts old.seat.board.setup.shape old.changes.items)
    pub same : new.changes ≡ old.changes

-- where a value was lent, the fact `R` holds between what it was and what came back
abbrev pub IfLent : {T : Type 0} → (T → T → Type 0) → Option (MutBor T) → Unit {0} ⊎ ((MutBor T × Unit {0}) ⊎ ⊥) → Type 0
IfLent R None after = Unit {0}
IfLent R (Some x) (inl u) = ⊥
IfLent R (Some x) (inr (inl y)) = R x.now y.0.now
IfLent R (Some x) (inr (inr z)) = ⊥
