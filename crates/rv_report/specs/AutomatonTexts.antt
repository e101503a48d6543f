-- The printed table of an automaton (this project's choice: docs/FORMATS.md). State k is row k + 1, and rows are what is printed.
use Rattle.std.specs.Prelude.{ℕ, ◌+◌, Bool, ◌==◌, List, [], ◌++◌, length, flat_map, slice_index_or, if◌then◌else◌, codes, decimal}
use Rattle.rv_model.specs.declared.automaton.Edge.{Edge}
use Rattle.rv_model.specs.Machine.{Machine}
use Rattle.rv_model.specs.Numbers.{list_of, has_bit}
use Rattle.rv_model.specs.Reports.{line_end}

-- how many states and events there are
abbrev pub counts_text : ℕ → ℕ → List ℕ
counts_text states events = codes "states " ++ decimal states ++ codes ", events " ++ decimal events ++ line_end

-- whether the state is marked
abbrev pub state_mark : Bool → List ℕ
state_mark is_marked = if is_marked then codes " marked" else []

-- the line of a state
abbrev pub state_heading : Machine → ℕ → List ℕ
state_heading a state = decimal (state + 1) ++ codes " " ++ slice_index_or a.states state [] ++ state_mark (has_bit a.marked state) ++ line_end

-- the line of an edge: its event, and its target's row
abbrev pub edge_line : List (List ℕ) → Edge → List ℕ
edge_line events e = codes "  " ++ slice_index_or events e.event [] ++ codes " " ++ decimal (e.to + 1) ++ line_end

-- the same of an edge that leaves the state
abbrev pub leaving_line : List (List ℕ) → ℕ → Edge → List ℕ
leaving_line events state e = if e.from == state then edge_line events e else []

-- a state, and then its edges in order
abbrev pub state_block : Machine → ℕ → List ℕ
state_block a state = state_heading a state ++ flat_map (leaving_line a.events state) a.edges

-- the table of an automaton: its states in order
abbrev pub automaton_text : Machine → List ℕ
automaton_text a = counts_text (length a.states) (length a.events) ++ flat_map (state_block a) (list_of (λ state. state) (length a.states))
