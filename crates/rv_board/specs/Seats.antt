-- Seats and boards as plain data, and what a call of a board adds to its seat's list.
use Rattle.std.specs.Prelude.{◌≡◌, ℕ, ◌<◌, ◌≤◌, true, List, [], ◌∷◌, ◌++◌}
use Rattle.std.specs.Coded.{Coded, code_by, coded×}
use Rattle.std.proofs.Common.{refl}
use Rattle.atomic_table.specs.Seated.{TableId, table_id_coded}
use Rattle.atomic_table.specs.Table.{Me}
use Rattle.rv_model.specs.declared.entry.Act.{Act}
use Rattle.rv_model.specs.declared.entry.Act.TheVariants.{Look}
use Rattle.rv_model.specs.declared.entry.Entry.{Entry}
use Rattle.rv_model.specs.Setups.{Setup, coded_setup}
use Rattle.rv_model.specs.Histories.{IsSound}
use Rattle.rv_model.specs.Seats.{Seat, known_of, entries_of, Grows}
use Rattle.rv_core.specs.Setup.{judges_of}
use Rattle.rv_board.specs.declared.view.View.{View}
use Rattle.rv_board.specs.Codes.{coded_part}
use Rattle.rv_board.specs.Known.{blank, numbers, part}

-- what contracts see of a board: which table it is, and the setup that it was made with
pub record BoardId : Type 0 where
  pub table : TableId
  pub setup : Setup

-- what contracts see of a seat: what it knows, and the board that it is of
pub record SeatValue : Type 0 where
  pub part : Seat
  pub board : BoardId

-- a board as a pair of its table and its setup
abbrev pub coded_board : Coded BoardId
coded_board = code_by (TableId × Setup) (coded× table_id_coded coded_setup) (λ b. (b.table, b.setup)) (λ p. record { table = p.0; setup = p.1 }) (λ _. refl)

-- a seat as a pair of what it knows and its board, by a code of entries
abbrev pub coded_seat : Coded Entry → Coded SeatValue
coded_seat entry = code_by (Seat × BoardId) (coded× (coded_part entry) coded_board) (λ s. (s.part, s.board)) (λ p. record { part = p.0; board = p.1 }) (λ _. refl)

-- a seat from what it knows and its board
abbrev pub seat_value : Seat → BoardId → SeatValue
seat_value part board = record { part = part; board = board }

-- between two calls a seat's fields are those of its view, no join is under way, and the list that it has seen is sound
pub record IsUsable (number end : ℕ) (me : Me Act View) : Type 0 where
  pub number_is : number ≡ me.0.part.number
  pub end_is : end ≡ me.0.part.end
  pub has : me.0.part.number < me.0.part.end
  pub small : me.0.part.end ≤ 67
  pub left : me.0.left ≡ blank
  pub right : me.0.right ≡ blank
  pub empty : me.1 ≡ []
  pub sound : IsSound me.0.setup (judges_of me.0.setup) me.0.part.seen

-- the seat's list grows by the entries `own` of its own and by any of other seats, and the seat is of the same board
pub record SeatGrows (old new : SeatValue) (own : List Entry) : Type 0 where
  pub grows : Grows old.board.setup (judges_of old.board.setup) old.part new.part own
  pub board : new.board ≡ old.board

-- the seat's list grows by one entry of its own, `entry`, whose act is `act`
pub record Acts (old new : SeatValue) (act : Act) (entry : Entry) : Type 0 where
  pub grows : SeatGrows old new (entry ∷ [])
  pub act_is : entry.act ≡ act

-- the seat's list grows by one entry of its own, whose act is `act`
abbrev pub Does : SeatValue → SeatValue → Act → Type 0
Does old new act = (entry : Entry) × Acts old new act entry

-- the seat's list grows by one look of its own, which found the switches `word`
pub record Looks (old new : SeatValue) (word : ℕ) : Type 0 where
  pub entry : Entry
  pub acts : Acts old new Look entry
  pub found : entry.after ≡ word

-- the list `h` begins with what the seat had seen, and goes on without the numbers that it knows
pub record ExtendsSeen (h : List Entry) (seat : Seat) : Type 0 where
  pub rest : List Entry
  pub list : h ≡ seat.seen ++ rest
  pub none : entries_of (known_of seat) rest ≡ []

-- the new list begins with both seats' lists, goes on without the numbers of either, and is sound; the numbers of the
-- other seat are joined in
pub record Joins (old from new : SeatValue) : Type 0 where
  pub own : ExtendsSeen new.part.seen old.part
  pub other : ExtendsSeen new.part.seen from.part
  pub sound : IsSound old.board.setup (judges_of old.board.setup) new.part.seen
  pub joined_in : new.part.joined_in ≡ old.part.joined_in ++ numbers from.part
  pub number : new.part.number ≡ old.part.number
  pub end : new.part.end ≡ old.part.end
  pub board : new.board ≡ old.board

-- the history is sound and begins with what the seat had seen, and is no more than that where the seat knows all
-- numbers
pub record Closes (seat : SeatValue) (h : List Entry) : Type 0 where
  pub list : ExtendsSeen h seat.part
  pub sound : IsSound seat.board.setup (judges_of seat.board.setup) h
  pub whole : ((n : ℕ) → n < 67 → known_of seat.part n ≡ true) → h ≡ seat.part.seen
