-- The seats of a run of all scripts at once.
use Rattle.std.specs.Prelude.{◌≡◌, ℕ, ◌<◌, true, List, ◌++◌, map, reverse, All, Any}
use Rattle.std.proofs.Common.{◌⊎◌}
use Rattle.rv_model.specs.Seats.{known_of}
use Rattle.rv_board.specs.RunSeats.{IsFresh, IsFirst}
use Rattle.rv_board.specs.Seats.{BoardId, SeatValue}
use Rattle.rv_feed.specs.declared.feeder.Feeder.{Feeder}
use Rattle.rv_feed.specs.Feeders.{FitsFeeder}
use Rattle.rv_feed.specs.Lane.{LaneValue}

module _ {G : Type 0} where
  -- the feeder fits the board, and its seat has seen nothing
  pub record IsSeated (board : BoardId) (f : Feeder G LaneValue) : Type 0 where
    pub fits : FitsFeeder board f
    pub fresh : IsFresh f.seat

  -- the lanes of the feeders, in reverse order: feeders are made from the last lane to the first
  abbrev pub lanes_of : List (Feeder G LaneValue) → List LaneValue
  lanes_of fs = reverse (map (λ f. f.lane) fs)

  -- every number below `end` is the first seat's or a feeder's
  abbrev pub Cover : ℕ → SeatValue → List (Feeder G LaneValue) → Type 0
  Cover end first fs = (n : ℕ) → n < end → (known_of first.part n ≡ true) ⊎ Any (λ f. known_of f.seat.part n ≡ true) fs

  -- each lane but those in `left` has a feeder, and the feeders and the first seat have all numbers below `end`
  pub record AreSeated (board : BoardId) (end : ℕ) (first : SeatValue) (all left : List LaneValue) (fs : List (Feeder G LaneValue)) : Type 0 where
    pub is_first : IsFirst board first
    pub seated : All (IsSeated board) fs
    pub lanes_are : all ≡ left ++ lanes_of fs
    pub cover : Cover end first fs
