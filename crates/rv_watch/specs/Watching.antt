-- What a watcher begins with, and what it comes to.
use Rattle.std.specs.Prelude.{◌≡◌, ℕ, ◌<◌, ◌≤◌, [], length, reverse, sum, vec_capacity}
use Rattle.rv_model.specs.SharedWords.{word_of}
use Rattle.rv_core.specs.Setup.{judges_of}
use Rattle.rv_board.specs.Seats.{BoardId, SeatValue, SeatGrows}
use Rattle.rv_watch.specs.declared.watcher.Watcher.{Watcher}
use Rattle.rv_watch.specs.Words.{AreWords, AreKept, IsSeen}

-- the slot's word by the board's tables, after all that the seat has seen
abbrev pub word_seen : SeatValue → ℕ → ℕ
word_seen seat slot = word_of seat.board.setup (judges_of seat.board.setup) (reverse seat.part.seen) slot

module _ {G : Type 0} where
  -- a watcher of this slot with no word yet, and room for 1,024
  pub record IsWatcher (seat : SeatValue) (slot : ℕ) (w : Watcher G) : Type 0 where
    pub seat_is : w.seat ≡ seat
    pub slot_is : w.slot ≡ slot
    pub no_words : w.words.items ≡ []
    pub room : 1024 ≤ vec_capacity w.words

  -- the seat and the slot are the board's, no word is kept yet, and there is room for 1,024
  pub record CanWatch (board : BoardId) (w : Watcher G) : Type 0 where
    pub board_is : w.seat.board ≡ board
    pub slot_is : w.slot < sum board.setup.shape
    pub no_words : w.words.items ≡ []
    pub room : 1024 ≤ vec_capacity w.words

  -- the seat's list grew by no entry of its own, and the words are the slot's after beginnings of it, none shorter than the list was;
  -- the last word is that after the whole list, unless there are 1,024
  pub record WatchesSlot (old new : Watcher G) : Type 0 where
    pub grows : SeatGrows old.seat new.seat []
    pub slot_is : new.slot ≡ old.slot
    pub words : AreWords new.seat.board.setup (judges_of new.seat.board.setup) new.seat.part.seen old.slot (length old.seat.part.seen) new.words.items
    pub kept : AreKept new.words.items
    pub newest : IsSeen new.words.items (word_seen new.seat old.slot)
