-- The canonical text of an automaton (this project's choice), line by line.
use Rattle.std.specs.Prelude.{ℕ, ◌/◌, ◌%◌, Bool, ◌==◌, codes, List, [], ◌∷◌, ◌++◌, map, slice_index_or, if◌then◌else◌}
use Rattle.std.specs.List.{flat_map}
use Rattle.rv_model.specs.declared.automaton.Edge.{Edge}
use Rattle.rv_model.specs.Machine.{Machine}
use Rattle.rv_dot.specs.Gathered.{Arc}

-- a state, and whether it is marked
pub record State : Type 0 where
  pub name : List ℕ
  pub is_marked : Bool

-- what the text draws, by names
pub record Drawing : Type 0 where
  pub initial : List ℕ
  pub states : List State
  pub arcs : List Arc

-- between quotes
abbrev pub quoted : List ℕ → List ℕ
quoted name = codes "\"" ++ name ++ codes "\""

-- the name of the initial state's marker
abbrev pub marker : List ℕ → List ℕ
marker initial = codes "__init_" ++ initial

-- the shape that a state is drawn with
abbrev pub drawn_shape : Bool → List ℕ
drawn_shape is_marked = if is_marked then codes "doublecircle" else codes "circle"

-- the lines that are always the same
abbrev pub head_lines : List ℕ
head_lines = codes "digraph state_automaton {\n\tcenter = true;\n\tsize = \"7,11\";\n"

--     {node [shape = plaintext, style=invis, label=""] "__init_S"};
abbrev pub marker_line : List ℕ → List ℕ
marker_line initial = codes "\t{node [shape = plaintext, style=invis, label=\"\"] " ++ quoted (marker initial) ++ codes "};\n"

--     {node [shape = circle] "S"};
abbrev pub state_line : State → List ℕ
state_line s = codes "\t{node [shape = " ++ drawn_shape s.is_marked ++ codes "] " ++ quoted s.name ++ codes "};\n"

--     "__init_S" -> "S";
abbrev pub initial_line : List ℕ → List ℕ
initial_line initial = codes "\t" ++ quoted (marker initial) ++ codes " -> " ++ quoted initial ++ codes ";\n"

--     "S" [label = "S"];
abbrev pub node_line : List ℕ → List ℕ
node_line name = codes "\t" ++ quoted name ++ codes " [label = " ++ quoted name ++ codes "];\n"

--     "S" -> "T" [ label = "e" ];
abbrev pub arc_line : Arc → List ℕ
arc_line a = codes "\t" ++ quoted a.from ++ codes " -> " ++ quoted a.to ++ codes " [ label = " ++ quoted a.event ++ codes " ];\n"

-- the last line
abbrev pub last_line : List ℕ
last_line = codes "}\n"

-- the text of a drawing
abbrev pub drawing_text : Drawing → List ℕ
drawing_text d =
    head_lines ++ marker_line d.initial ++ flat_map state_line d.states ++ initial_line d.initial ++ flat_map node_line (map (λ s. s.name) d.states) ++ flat_map arc_line d.arcs ++ last_line

-- the states, each marked where its bit is set, from the lowest on
abbrev pub states_marked : ℕ → List (List ℕ) → List State
states_marked bits [] = []
states_marked bits (name ∷ names) = record { name = name; is_marked = bits % 2 == 1 } ∷ states_marked (bits / 2) names

-- an edge by its names
abbrev pub arc_named : List (List ℕ) → List (List ℕ) → Edge → Arc
arc_named states events e = record { from = slice_index_or states e.from []; event = slice_index_or events e.event []; to = slice_index_or states e.to [] }

-- what the canonical text draws of an automaton
abbrev pub drawing_of : Machine → Drawing
drawing_of a = record {
  initial = slice_index_or a.states 0 [];
  states = states_marked a.marked a.states;
  arcs = map (arc_named a.states a.events) a.edges;
}

-- the canonical text of an automaton
unfoldable pub dot_text : Machine → List ℕ
dot_text a = drawing_text (drawing_of a)
