-- What the changes of the control actor ask for, and what they add to its seat's list.
use Rattle.std.specs.Prelude.{◌≡◌, ◌^◌, ◌<◌, List, [], map}
use Rattle.rv_model.specs.declared.entry.Act.{Act}
use Rattle.rv_model.specs.declared.entry.Entry.{Entry}
use Rattle.rv_model.specs.declared.work.Change.{Change}
use Rattle.rv_board.specs.Seats.{BoardId, SeatValue, SeatGrows}

-- the seat is the control actor's, on this board
pub record CanChange (board : BoardId) (seat : SeatValue) : Type 0 where
  pub board_is : seat.board ≡ board
  pub actor : seat.part.number ≡ 1

-- the change turns off and on no switch from the halted one on
pub record IsBelowHalt (c : Change) : Type 0 where
  pub lower : c.lower < 2 ^ 34
  pub raise : c.raise < 2 ^ 34

-- the seat's list grows by entries of its own that have the acts `acts`, in order; where there are none, the seat is as
-- before
pub record DoesAll (old new : SeatValue) (acts : List Act) : Type 0 where
  pub own : List Entry
  pub grows : SeatGrows old new own
  pub acts_are : map (λ e. e.act) own ≡ acts
  pub still : own ≡ [] → new ≡ old
