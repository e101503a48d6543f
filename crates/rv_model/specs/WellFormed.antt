-- What an automaton keeps.
use Rattle.std.specs.Prelude.{◌≡◌, ◌≢◌, ◌<◌, ◌≤◌, ◌^◌, ◌⊎◌, ◌||◌, ◌&&◌, ◌==◌, ℕ, Bool, List, length, drop, slice_index_or, [], All, AllPairs, Any, IsTrue, nat_le, nat_eq, codes}
use Rattle.std.specs.List.{starts_with}
use Rattle.std.specs.Cmp.Lexicographic.{slice_cmp}
use Rattle.std.specs.Ordering.{nat_cmp}
use Rattle.std.specs.declared.cmp.Ordering.TheVariants.{Less}
use Rattle.rv_model.specs.declared.automaton.Edge.{Edge}
use Rattle.rv_model.specs.Machine.{Machine}

-- by bytes, the first text stands before the second
abbrev pub IsBefore : List ℕ → List ℕ → Type 0
IsBefore x y = slice_cmp nat_cmp x y ≡ Less

-- the byte lies between the two
abbrev pub is_between : ℕ → ℕ → ℕ → Bool
is_between low high b = nat_le low b && nat_le b high

-- letters, digits and `_`
abbrev pub is_event_byte : ℕ → Bool
is_event_byte b = is_between 97 122 b || is_between 65 90 b || is_between 48 57 b || b == 95

-- and `.` too
abbrev pub is_state_byte : ℕ → Bool
is_state_byte b = is_event_byte b || b == 46

-- 1 to 64 bytes that pass the test
abbrev pub IsNameOf : (ℕ → Bool) → List ℕ → Type 0
IsNameOf is_byte name = (1 ≤ length name) × (length name ≤ 64) × All (λ b. IsTrue (is_byte b)) name

-- the name of a state, which does not begin like a marker's
abbrev pub IsStateName : List ℕ → Type 0
IsStateName name = IsNameOf is_state_byte name × ¬ IsTrue (starts_with nat_eq name (codes "__init_"))

-- by the state that it leaves, then by its event
abbrev pub EdgeIsBefore : Edge → Edge → Type 0
EdgeIsBefore e f = (e.from < f.from) ⊎ ((e.from ≡ f.from) × (e.event < f.event))

-- what every automaton keeps
pub record IsAutomaton (a : Machine) : Type 0 where
  pub some_state : 1 ≤ length a.states
  pub few_states : length a.states ≤ 31
  pub few_events : length a.events ≤ 64
  pub states_named : All IsStateName a.states
  pub events_named : All (IsNameOf is_event_byte) a.events
  -- the first state is the initial one, and stands nowhere else
  pub initial_once : All (λ s. s ≢ slice_index_or a.states 0 []) (drop 1 a.states)
  pub states_ascend : AllPairs IsBefore (drop 1 a.states)
  pub events_ascend : AllPairs IsBefore a.events
  pub in_range : All (λ e. (e.from < length a.states) × (e.event < length a.events) × (e.to < length a.states)) a.edges
  pub edges_ascend : AllPairs EdgeIsBefore a.edges
  pub events_used : (event : ℕ) → event < length a.events → Any (λ e. e.event ≡ event) a.edges
  pub some_mark : 0 < a.marked
  pub marks_in_range : a.marked < 2 ^ length a.states
