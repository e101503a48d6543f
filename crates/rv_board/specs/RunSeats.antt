-- The seats of a run: the first one, which splits off the others, and what is joined into a seat.
use Rattle.std.specs.Prelude.{◌≡◌, ℕ, ◌<◌, true, []}
use Rattle.rv_model.specs.Seats.{known_of}
use Rattle.rv_board.specs.Seats.{BoardId, SeatValue, ExtendsSeen}

-- the seat has a number and has seen nothing
pub record IsFresh (s : SeatValue) : Type 0 where
  pub has : s.part.number < s.part.end
  pub seen : s.part.seen ≡ []

-- the list of `into` begins with that of `seat` and goes on without its numbers, all of which `into` knows
pub record HasTakenIn (into seat : SeatValue) : Type 0 where
  pub follows : ExtendsSeen into.part.seen seat.part
  pub within : (n : ℕ) → known_of seat.part n ≡ true → known_of into.part n ≡ true

-- the first seat of the board: it has number 0, has not handed on number 1, and has seen nothing
pub record IsFirst (board : BoardId) (first : SeatValue) : Type 0 where
  pub board_is : first.board ≡ board
  pub number : first.part.number ≡ 0
  pub end : 1 < first.part.end
  pub seen : first.part.seen ≡ []
