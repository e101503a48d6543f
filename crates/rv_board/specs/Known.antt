-- A seat from its parts, and the numbers that it knows.
use Rattle.std.specs.Prelude.{ℕ, zero, suc, ◌-◌, List, [], ◌∷◌, ◌++◌}
use Rattle.rv_model.specs.declared.entry.Entry.{Entry}
use Rattle.rv_model.specs.Seats.{Seat}

-- `n` numbers one after another, of which `a` is the first
abbrev pub count_from : ℕ → ℕ → List ℕ
count_from a zero = []
count_from a (suc n) = a ∷ count_from (suc a) n

-- all numbers that a seat knows: its own and those up to its end, then those that were joined in
abbrev pub numbers : Seat → List ℕ
numbers p = count_from p.number (p.end - p.number) ++ p.joined_in

-- a seat from its number, its end, the numbers that were joined in, and the entries that it has seen
abbrev pub part : ℕ → ℕ → List ℕ → List Entry → Seat
part number end joined_in seen = record { number = number; end = end; joined_in = joined_in; seen = seen }

-- the seat that knows no number and has seen nothing
abbrev pub blank : Seat
blank = part 0 0 [] []
