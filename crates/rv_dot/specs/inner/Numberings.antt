-- What a numbering knows of its names.
use Rattle.std.specs.Prelude.{ℕ, List, ◌∷◌, map}
use Rattle.std.specs.Cmp.Lexicographic.{slice_cmp}
use Rattle.std.specs.Ordering.{nat_cmp}
use Rattle.rv_dot.specs.declared.numbering.Numbering.{Numbering}
use Rattle.rv_dot.specs.declared.moves.Move.{Move}
use Rattle.rv_model.specs.Machine.{Machine}
use Rattle.rv_dot.specs.Statements.{Claim}
use Rattle.rv_dot.specs.Gathered.{is_marked}
use Rattle.rv_dot.specs.Moves.{edge_of}
use Rattle.rv_dot.specs.Dot.{bits_of, marked_or_initial}
use Rattle.rv_text.specs.inner.Ascending.{Ascends}
use Rattle.rv_dot.specs.inner.Held.{bytes_of}

-- the first state and then the others
abbrev pub states_by : Numbering → List (List ℕ)
states_by n = n.first.now ∷ map bytes_of n.others.now

-- the events
abbrev pub events_by : Numbering → List (List ℕ)
events_by n = map bytes_of n.events.now

-- the automaton with the moves of a numbering
abbrev pub machine_by : List Claim → Numbering → List Move → Machine
machine_by claims n moves = record {
  states = states_by n;
  events = events_by n;
  edges = map edge_of moves;
  marked = marked_or_initial (bits_of (map (is_marked claims) (states_by n)));
}

-- the other states ascend, and the events
pub record IsNumbering (n : Numbering) : Type 0 where
  pub others : Ascends (slice_cmp nat_cmp) (map bytes_of n.others.now)
  pub events : Ascends (slice_cmp nat_cmp) (map bytes_of n.events.now)
