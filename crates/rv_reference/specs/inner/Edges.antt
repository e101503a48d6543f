-- Which edges lead from a state by a letter.
use Rattle.std.specs.Prelude.{ℕ, Bool, false, ◌==◌, ◌&&◌}
use Rattle.rv_model.specs.declared.automaton.Edge.{Edge}
use Rattle.rv_model.specs.declared.hit.Letter.{Letter}
use Rattle.rv_model.specs.declared.hit.Letter.TheVariants.{Event, Atoms}

-- the edge is from this state by this event
abbrev pub is_edge_by : ℕ → Letter → Edge → Bool
is_edge_by state (Event event) edge = edge.from == state && edge.event == event
is_edge_by state (Atoms set) edge = false
