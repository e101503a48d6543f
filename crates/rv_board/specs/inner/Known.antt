-- Which numbers a seat knows, and when what it has seen is a beginning of a history.
use Rattle.std.specs.Prelude.{◌≡◌, ℕ, Bool, ◌||◌, List, [], ◌++◌}
use Rattle.rv_model.specs.declared.entry.Entry.{Entry}
use Rattle.rv_model.specs.Seats.{Seat, is_within, is_among, entries_of}
use Rattle.rv_board.specs.Known.{part}

-- whether a number lies from `number` up to `end`, or was joined in
unfoldable pub known_by : ℕ → ℕ → List ℕ → ℕ → Bool
known_by number end joined_in n = is_within number end n || is_among joined_in n

-- whether a seat knows a number, whatever it has seen
abbrev pub knows : Seat → ℕ → Bool
knows p = known_by p.number p.end p.joined_in

-- the history begins with what the seat has seen, and has no later entry by a number that the seat knows
pub record Begun (history : List Entry) (p : Seat) : Type 0 where
  pub rest : List Entry
  pub whole : history ≡ p.seen ++ rest
  pub none : entries_of (knows p) rest ≡ []

-- a seat with the numbers of `p` that has seen the list `history`
abbrev pub with_list : Seat → List Entry → Seat
with_list p history = part p.number p.end p.joined_in history
