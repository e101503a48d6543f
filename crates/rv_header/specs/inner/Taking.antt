-- What the reader takes from the text of C tables: its pieces, and what they draw.
use Rattle.std.specs.Prelude.{ℕ, Bool, ◌&&◌, nat_le, Option, Some, None, ◌+◌, ◌-◌, ◌==◌, codes, List, [], ◌∷◌, map, length, take, drop, slice_index_or, if◌then◌else◌}
use Rattle.std.specs.List.{slice_split, list_all, flat_map, zip}
use Rattle.std.specs.Str.{bytes_eq}
use Rattle.rv_dot.specs.Gathered.{Arc}
use Rattle.rv_dot.specs.Canonical.{State, Drawing, drawing_text}

-- the pieces between the bytes that are this one
abbrev pub pieces : ℕ → List ℕ → List (List ℕ)
pieces mark text = slice_split (λ b. b == mark) text

-- one of them, or none
unfoldable pub piece_from : ℕ → ℕ → List ℕ → List ℕ
piece_from mark place text = slice_index_or (pieces mark text) place []

-- every second one
abbrev pub seconds : List (List ℕ) → List (List ℕ)
seconds [] = []
seconds (x ∷ []) = []
seconds (x ∷ y ∷ later) = y ∷ seconds later

-- what stands between quotes
unfoldable pub quoted_in : List ℕ → List (List ℕ)
quoted_in text = seconds (pieces 34 text)

-- a member of a list: what stands between its first two blanks
abbrev pub member_in : List ℕ → List ℕ
member_in text = piece_from 32 1 text

-- the members of a list: the pieces between commas
unfoldable pub members_in : List ℕ → List (List ℕ)
members_in text = map member_in (pieces 44 text)

-- the state of a C name, whose end is the header's name
abbrev pub untagged : List ℕ → List ℕ → List ℕ
untagged name text = take (length text - (length name + 1)) text

-- the arc of a cell, where it has one
abbrev pub cell_arcs : List ℕ → List ℕ → List ℕ → List ℕ → List Arc
cell_arcs name from event cell = if bytes_eq cell (codes "INVALID_STATE") then [] else record { from = from; event = event; to = untagged name cell } ∷ []

-- the arcs of a row: a cell for each event
abbrev pub row_arcs : List ℕ → List (List ℕ) → List ℕ → List (List ℕ) → List Arc
row_arcs name events from row = flat_map (λ p. cell_arcs name from p.0 p.1) (zip events row)

-- the arcs of all rows: one for each state
abbrev pub rows_arcs : List ℕ → List (List ℕ) → List (List ℕ) → List (List ℕ) → List Arc
rows_arcs name events states rows = flat_map (λ p. row_arcs name events p.0 (members_in p.1)) (zip states rows)

-- a state and its mark
abbrev pub state_by : List ℕ → List ℕ → State
state_by name mark = record { name = name; is_marked = bytes_eq mark (codes "1") }

-- the states, each with its mark
abbrev pub marked_by : List (List ℕ) → List (List ℕ) → List State
marked_by states marks = map (λ p. state_by p.0 p.1) (zip states marks)

-- the header's name, behind `states_`
abbrev pub name_in : List ℕ → List ℕ
name_in text = drop 7 (piece_from 32 1 text)

-- the names of the states
abbrev pub state_names_in : List ℕ → List (List ℕ)
state_names_in text = quoted_in (piece_from 46 1 text)

-- the names of the events
abbrev pub events_in : List ℕ → List (List ℕ)
events_in text = quoted_in (piece_from 46 2 text)

-- the rows
abbrev pub rows_in : List ℕ → List (List ℕ)
rows_in text = drop 2 (pieces 123 (piece_from 46 3 text))

-- the marks
abbrev pub marks_in : List ℕ → List (List ℕ)
marks_in text = members_in (piece_from 123 1 (piece_from 46 5 text))

-- what is drawn by the header's name, the names of states and of events, the rows and the marks
abbrev pub drawing_by : List ℕ → List (List ℕ) → List (List ℕ) → List (List ℕ) → List (List ℕ) → Drawing
drawing_by name states events rows marks = record {
  initial = slice_index_or states 0 [];
  states = marked_by states marks;
  arcs = rows_arcs name events states rows;
}

-- what the text draws
abbrev pub drawing_in : List ℕ → Drawing
drawing_in text = drawing_by (name_in text) (state_names_in text) (events_in text) (rows_in text) (marks_in text)

-- at most so many names, each of at most 64 bytes
abbrev pub are_few : ℕ → List (List ℕ) → Bool
are_few most names = nat_le (length names) most && list_all (λ name. nat_le (length name) 64) names

-- the text of an automaton file that draws the same, where the names are as many and as long as an automaton's
unfoldable pub file_in : List ℕ → Option (List ℕ)
file_in text = if are_few 31 (state_names_in text) && are_few 64 (events_in text) then Some (drawing_text (drawing_in text)) else None
