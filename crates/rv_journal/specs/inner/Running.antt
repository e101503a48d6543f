-- The seats of a recorded run, as they are split off and joined.
use Rattle.std.specs.Prelude.{◌≡◌, ℕ, ◌+◌, ◌<◌, true, List, ◌++◌, map, reverse, All, Any}
use Rattle.std.proofs.Common.{◌⊎◌}
use Rattle.rv_model.specs.Seats.{known_of}
use Rattle.rv_model.specs.Works.{Work}
use Rattle.rv_board.specs.RunSeats.{IsFirst, IsFresh, HasTakenIn}
use Rattle.rv_board.specs.Seats.{BoardId, SeatValue}
use Rattle.rv_journal.specs.declared.feeding.CountedFeeder.{CountedFeeder}
use Rattle.rv_journal.specs.CountedFeeders.{FitsCountedFeeder}
use Rattle.rv_journal.specs.CountedLanes.{CountedLaneValue}
use Rattle.rv_journal.specs.Running.{FitsCountedWork}

module _ {G : Type 0} where
  -- the feeder fits the board, its seat has seen nothing, and its work fits
  pub record IsCountedSeated (board : BoardId) (f : CountedFeeder G) : Type 0 where
    pub fits : FitsCountedFeeder board f
    pub fresh : IsFresh f.seat.seat
    pub work : FitsCountedWork board.setup f.lane.work

  -- the feeder has this work and all numbers from its CPU's on that the first seat had, which keeps the others
  pub record IsSeatedFor (board : BoardId) (old new : SeatValue) (w : Work) (f : CountedFeeder G) : Type 0 where
    pub work_is : f.lane.work ≡ w
    pub seated : IsCountedSeated board f
    pub first : IsFirst board new
    pub end : new.part.end ≡ 2 + w.cpu
    pub cover : (n : ℕ) → known_of old.part n ≡ true → (known_of new.part n ≡ true) ⊎ (known_of f.seat.seat.part n ≡ true)

  -- the lanes of the feeders, in reverse order: feeders are made from the last work to the first
  abbrev pub lanes_in : List (CountedFeeder G) → List CountedLaneValue
  lanes_in fs = reverse (map (λ f. f.lane) fs)

  -- the works of the feeders' lanes, in reverse order
  abbrev pub works_in : List (CountedFeeder G) → List Work
  works_in fs = reverse (map (λ f. f.lane.work) fs)

  -- every number below 67 is the first seat's or a feeder's
  abbrev pub CoverCounted : SeatValue → List (CountedFeeder G) → Type 0
  CoverCounted first fs = (n : ℕ) → n < 67 → (known_of first.part n ≡ true) ⊎ Any (λ f. known_of f.seat.seat.part n ≡ true) fs

  -- each work but those in `left` has a feeder, and the feeders and the first seat have all numbers
  pub record AreCountedSeated (board : BoardId) (first : SeatValue) (all left : List Work) (fs : List (CountedFeeder G)) : Type 0 where
    pub is_first : IsFirst board first
    pub seated : All (IsCountedSeated board) fs
    pub works_are : all ≡ left ++ works_in fs
    pub cover : CoverCounted first fs

  -- the seat is of the board and has taken in the seats of all feeders, whose lanes came back
  pub record AreJoined (board : BoardId) (old new : SeatValue) (fs : List (CountedFeeder G)) (lanes : List CountedLaneValue) : Type 0 where
    pub board_is : new.board ≡ board
    pub into : HasTakenIn new old
    pub seats : All (λ f. HasTakenIn new f.seat.seat) fs
    pub lanes_are : lanes ≡ lanes_in fs
