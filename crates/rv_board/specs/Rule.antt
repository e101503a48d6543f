-- How the view of a seat is cut and joined.
use Rattle.std.specs.Prelude.{ℕ, nat_lt, List, [], ◌++◌, length, if◌then◌else◌}
use Rattle.rv_model.specs.declared.entry.Entry.{Entry}
use Rattle.rv_model.specs.Setups.{Setup}
use Rattle.rv_model.specs.Seats.{Seat}
use Rattle.rv_board.specs.declared.view.View.{View}
use Rattle.rv_board.specs.Known.{numbers, part, blank}

-- a view from what its seat knows, what the two seats of a join knew, and the setup
abbrev pub view : Seat → Seat → Seat → Setup → View
view p left right s = record { part = p; left = left; right = right; setup = s }

-- the setup without a monitor
abbrev pub no_setup : Setup
no_setup = record { shape = []; tables = []; starts = []; switches = 0 }

-- the view of a seat that was joined into another: it knows no number and has seen nothing
abbrev pub spent_view : View
spent_view = view blank blank blank no_setup

-- what a seat keeps where it is cut at a number: the numbers below, and all that it has seen
abbrev pub cut_left : ℕ → View → View
cut_left at v = view (part v.part.number at v.part.joined_in v.part.seen) blank blank v.setup

-- what the new seat of a cut gets: the numbers from the cut on, and all that the old seat has seen
abbrev pub cut_right : ℕ → View → View
cut_right at v = view (part at v.part.end [] v.part.seen) blank blank v.setup

-- the longer of two lists, and the first where both are as long
abbrev pub longer : List Entry → List Entry → List Entry
longer xs ys = if nat_lt (length xs) (length ys) then ys else xs

-- the view of a seat that took in another one's numbers; what both knew is kept until its next load
abbrev pub joined : View → View → View
joined v w = view (part v.part.number v.part.end (v.part.joined_in ++ numbers w.part) (longer v.part.seen w.part.seen)) v.part w.part v.setup
