-- The turns and the deliveries of a CPU, as they grow.
use Rattle.std.specs.Prelude.{ℕ, ◌+◌, Bool, false, ◌==◌, List, [], ◌∷◌, ◌++◌, length, if◌then◌else◌}
use Rattle.rv_model.specs.declared.work.Delivery.{Delivery}
use Rattle.rv_model.specs.declared.work.Turn.{Turn}
use Rattle.rv_model.specs.Works.{NamesEach}

-- the turns of a CPU, and the deliveries that they name
pub record LaneValue : Type 0 where
  pub turns : List Turn
  pub deliveries : List Delivery

-- the last turn is of the line
abbrev pub ends_with : List Turn → ℕ → Bool
ends_with [] line = false
ends_with (turn ∷ []) line = turn.line == line
ends_with (turn ∷ next ∷ turns) line = ends_with (next ∷ turns) line

-- the last turn goes up to this place
abbrev pub longer : List Turn → ℕ → List Turn
longer [] to = []
longer (turn ∷ []) to = record turn { to = to } ∷ []
longer (turn ∷ next ∷ turns) to = turn ∷ longer (next ∷ turns) to

-- one more delivery of the line, which stands at this place: it goes to the line's turn, or begins it
abbrev pub with_turn : List Turn → ℕ → ℕ → List Turn
with_turn turns line place = if ends_with turns line then longer turns (place + 1) else turns ++ record { line = line; from = place; to = place + 1 } ∷ []

-- the delivery comes last, and the turn of its line names it
abbrev pub with_delivery : LaneValue → ℕ → Delivery → LaneValue
with_delivery lane line delivery = record { turns = with_turn lane.turns line (length lane.deliveries); deliveries = lane.deliveries ++ delivery ∷ [] }

-- the turns name the deliveries in order, each once
abbrev pub IsLane : LaneValue → Type 0
IsLane lane = NamesEach 0 lane.turns (length lane.deliveries)
