-- What one CPU has to do: its turns, which name its deliveries in order.
use Rattle.std.specs.Prelude.{◌≡◌, ◌≤◌, ℕ, List, [], ◌∷◌, length}
use Rattle.rv_model.specs.declared.work.Delivery.{Delivery}
use Rattle.rv_model.specs.declared.work.Turn.{Turn}

-- what one CPU has to do: its turns, and their deliveries
pub record Work : Type 0 where
  pub cpu : ℕ
  pub turns : List Turn
  pub deliveries : List Delivery

-- from this place on the turns name the deliveries in order, each once
abbrev pub NamesEach : ℕ → List Turn → ℕ → Type 0
NamesEach place [] count = place ≡ count
NamesEach place (turn ∷ turns) count = (turn.from ≡ place) × (turn.from ≤ turn.to) × NamesEach turn.to turns count

-- the turns name the deliveries in order, each once
abbrev pub IsWork : Work → Type 0
IsWork w = NamesEach 0 w.turns (length w.deliveries)
