-- What all statements say together: the declared states, the targets of markers, and the arcs.
use Rattle.std.specs.Prelude.{ℕ, Bool, false, not, ◌&&◌, ◌||◌, ◌==◌, List, [], length, map, Option, Some, None, if◌then◌else◌}
use Rattle.std.specs.List.{filter_map, flat_map, list_all, list_any}
use Rattle.std.specs.Str.{bytes_eq}
use Rattle.rv_dot.specs.Statements.{Claim, declares, leads}
use Rattle.rv_dot.specs.Names.{is_marker, is_state_name, is_event_name, is_marking_shape}
use Rattle.rv_dot.specs.Labels.{label_events}

-- from one state to another by an event, each by its name
pub record Arc : Type 0 where
  pub from : List ℕ
  pub event : List ℕ
  pub to : List ℕ

-- the declared name, unless it is a marker
abbrev pub state_in : Claim → Option (List ℕ)
state_in (declares name shape) = if is_marker name then None else Some name
state_in (leads from to label) = None

-- the target, where the edge leaves a marker
abbrev pub target_in : Claim → Option (List ℕ)
target_in (declares name shape) = None
target_in (leads from to label) = if is_marker from then Some to else None

-- one arc for each of the events
abbrev pub arcs_with : List ℕ → List ℕ → List (List ℕ) → List Arc
arcs_with from to events = map (λ event. record { from = from; event = event; to = to }) events

-- one arc for each event of an edge that leaves no marker
abbrev pub arcs_of : Claim → List Arc
arcs_of (declares name shape) = []
arcs_of (leads from to None) = []
arcs_of (leads from to (Some label)) = if is_marker from then [] else arcs_with from to (label_events label)

-- the names of the declared states, in the order of the text
abbrev pub states_in : List Claim → List (List ℕ)
states_in claims = filter_map state_in claims

-- the targets of the edges that leave markers
abbrev pub targets_in : List Claim → List (List ℕ)
targets_in claims = filter_map target_in claims

-- the arcs of all edges
abbrev pub arcs_in : List Claim → List Arc
arcs_in claims = flat_map arcs_of claims

-- a declared name is a marker's or a state's; an edge from a marker has no label or an empty one, any other edge has a label
abbrev pub fits : Claim → Bool
fits (declares name shape) = is_marker name || is_state_name name
fits (leads from to None) = is_marker from
fits (leads from to (Some label)) = not (is_marker from) || length label == 0

-- the statement is a declaration of this state that marks it
abbrev pub marks_state : List ℕ → Claim → Bool
marks_state state (declares name shape) = bytes_eq name state && is_marking_shape shape
marks_state state (leads from to label) = false

-- every event has the name of one
abbrev pub events_fit : List Arc → Bool
events_fit arcs = list_all (λ a. is_event_name a.event) arcs

-- all names and labels follow the rules
abbrev pub all_fit : List Claim → Bool
all_fit claims = list_all fits claims && events_fit (arcs_in claims)

-- some declaration marks this state
abbrev pub is_marked : List Claim → List ℕ → Bool
is_marked claims state = list_any (marks_state state) claims
