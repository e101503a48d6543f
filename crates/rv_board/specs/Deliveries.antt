-- What a delivery adds to its seat's list: its own entry, or that of a stop.
use Rattle.std.specs.Prelude.{◌≡◌, ℕ, ◌≤◌, List, [], ◌∷◌, ◌++◌, filter, length, reverse}
use Rattle.rv_model.specs.declared.entry.Act.TheVariants.{Deliver, Stop}
use Rattle.rv_model.specs.declared.entry.Answer.{Answer}
use Rattle.rv_model.specs.declared.entry.Entry.{Entry}
use Rattle.rv_model.specs.declared.hit.Hit.{Hit}
use Rattle.rv_model.specs.declared.record.Delivered.{Delivered}
use Rattle.rv_model.specs.declared.record.Delivered.TheVariants.{Done, Racing}
use Rattle.rv_model.specs.Histories.{changed}
use Rattle.rv_model.specs.Seats.{known_of, entries_of}
use Rattle.rv_model.specs.SharedWords.{answer_at}
use Rattle.rv_core.specs.Setup.{judges_of}
use Rattle.rv_board.specs.Seats.{SeatValue, Acts}

-- the seat's list grows by the delivery, at its end, and the answer is the one that the entries before it give
pub record IsMade (old new : SeatValue) (slot : ℕ) (hit : Hit) (answer : Answer) : Type 0 where
  pub entry : Entry
  pub acts : Acts old new (Deliver slot hit) entry
  pub before : List Entry
  pub list : new.part.seen ≡ before ++ entry ∷ []
  pub answer_is : answer ≡ answer_at old.board.setup (judges_of old.board.setup) (reverse before) entry entry.act

-- the seat's list grows by a stop, at its end, and before it by entries of other seats alone, three of which changed
-- the slot's word
pub record IsGivenUp (old new : SeatValue) (slot : ℕ) : Type 0 where
  pub entry : Entry
  pub acts : Acts old new (Stop slot) entry
  pub added : List Entry
  pub list : new.part.seen ≡ (old.part.seen ++ added) ++ entry ∷ []
  pub others : entries_of (known_of old.part) added ≡ []
  pub three : 3 ≤ length (filter (changed slot) added)

-- with the outcome `Done` the delivery was made, and with `Racing` the slot was stopped
abbrev pub DeliversOrStops : SeatValue → SeatValue → ℕ → Hit → Delivered → Type 0
DeliversOrStops old new slot hit (Done answer) = IsMade old new slot hit answer
DeliversOrStops old new slot hit Racing = IsGivenUp old new slot
