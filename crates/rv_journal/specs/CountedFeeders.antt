-- What a feeder on a counted board begins with, and what running it comes to.
use Rattle.std.specs.Prelude.{◌≡◌, ◌+◌, ◌≤◌, length, All}
use Rattle.rv_board.specs.Seats.{BoardId}
use Rattle.rv_journal.specs.declared.feeding.CountedFeeder.{CountedFeeder}
use Rattle.rv_journal.specs.CountedLanes.{IsNewCountedLane, FitsCounted, FeedsCounted}

module _ {G : Type 0} where
  -- the seat is the CPU's on this board and may make as many entries as there are deliveries; the lane is new and fits
  -- the board
  pub record FitsCountedFeeder (board : BoardId) (f : CountedFeeder G) : Type 0 where
    pub board_is : f.seat.seat.board ≡ board
    pub seat_is : f.seat.seat.part.number ≡ 2 + f.lane.work.cpu
    pub left : length f.lane.work.deliveries ≤ f.seat.left
    pub new_lane : IsNewCountedLane f.lane.work f.lane
    pub fit : All (FitsCounted board.setup) f.lane.work.deliveries

  -- the feeder's seat made the deliveries of its lane's work, which is as before, and the lane has what they observed
  pub record RunsCounted (old new : CountedFeeder G) : Type 0 where
    pub feeds : FeedsCounted old.seat new.seat old.lane.work.deliveries new.lane.counted
    pub work_is : new.lane.work ≡ old.lane.work
