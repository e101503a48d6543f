-- The automaton of what statements say, by its properties alone (Linux, Documentation/trace/rv/deterministic_automata.rst).
use Rattle.std.specs.Prelude.{ℕ, ◌≡◌, ◌≤◌, ◌↔◌, true, List, [], length, map, Some, slice_index_or}
use Rattle.rv_model.specs.Machine.{Machine}
use Rattle.rv_model.specs.WellFormed.{IsAutomaton}
use Rattle.rv_dot.specs.Text.{said_by}
use Rattle.rv_dot.specs.Statements.{Claim}
use Rattle.rv_dot.specs.Gathered.{Arc, states_in, targets_in, arcs_in, all_fit, is_marked}
use Rattle.rv_dot.specs.Members.{IsMember}
use Rattle.rv_dot.specs.Canonical.{arc_named}
use Rattle.rv_dot.specs.Dot.{bits_of, marked_or_initial}

-- the automaton is what the statements draw
pub record IsDrawnBy (claims : List Claim) (a : Machine) : Type 0 where
  -- names and labels follow the rules
  pub fit : all_fit claims ≡ true
  -- an edge leaves a marker, and each that does leads to the first state
  pub some_target : IsMember (slice_index_or a.states 0 []) (targets_in claims)
  pub one_target : (target : List ℕ) → IsMember target (targets_in claims) → target ≡ slice_index_or a.states 0 []
  -- the states are the declared names that are no markers
  pub states : (name : List ℕ) → IsMember name a.states ↔ IsMember name (states_in claims)
  -- the events are those of the labels
  pub events : (name : List ℕ) → IsMember name a.events ↔ IsMember name (map (λ x. x.event) (arcs_in claims))
  -- the edges are, by their names, those between states
  pub edges : (x : Arc) → IsMember x (map (arc_named a.states a.events) a.edges) ↔ IsMember x (arcs_in claims)
  -- bit k stands for a marking declaration of state k; without any, for the first state
  pub marked : a.marked ≡ marked_or_initial (bits_of (map (is_marked claims) a.states))

-- the automaton is that of a text within the limit
pub record IsDotOf (bytes : List ℕ) (a : Machine) : Type 0 where
  pub few_bytes : length bytes ≤ 1048576
  pub claims : List Claim
  pub said : said_by bytes ≡ Some claims
  pub keeps : IsAutomaton a
  pub drawn : IsDrawnBy claims a
