-- An automaton as a plain value.
use Rattle.std.specs.Prelude.{ℕ, List}
use Rattle.rv_model.specs.declared.automaton.Edge.{Edge}

-- an automaton: names of states and events, edges, and the set of marked states
pub record Machine : Type 0 where
  pub states : List (List ℕ)
  pub events : List (List ℕ)
  pub edges : List Edge
  pub marked : ℕ
