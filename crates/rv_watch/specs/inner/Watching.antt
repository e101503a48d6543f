-- What one reading of the watched slot asks of its watcher, and what it leaves.
use Rattle.std.specs.Prelude.{◌≡◌, ◌<◌, ◌≤◌, [], length, sum, vec_capacity}
use Rattle.rv_board.specs.Seats.{BoardId, SeatGrows}
use Rattle.rv_watch.specs.declared.watcher.Watcher.{Watcher}
use Rattle.rv_watch.specs.inner.Words.{AppendsWord}
use Rattle.rv_watch.specs.Watching.{word_seen}

module _ {G : Type 0} where
  -- ---- one reading

  -- the seat and the slot are the board's, and there is room for all words that are kept
  pub record CanRead (board : BoardId) (w : Watcher G) : Type 0 where
    pub board_is : w.seat.board ≡ board
    pub slot_is : w.slot < sum board.setup.shape
    pub few : length w.words.items ≤ 1024
    pub room : 1024 ≤ vec_capacity w.words

  -- the slot's word was read, and is kept where it is not that before it
  pub record ReadsSlot (old new : Watcher G) : Type 0 where
    pub grows : SeatGrows old.seat new.seat []
    pub slot_is : new.slot ≡ old.slot
    pub keeps : AppendsWord old.words.items (word_seen new.seat old.slot) new.words.items
    pub room : vec_capacity old.words ≤ vec_capacity new.words
