-- The C tables of an automaton, in the manner of the kernel's generated headers (Linux, Documentation/trace/rv/da_monitor_synthesis.rst); the exact text is this project's choice.
use Rattle.std.specs.Prelude.{ℕ, Bool, ◌&&◌, ◌==◌, codes, List, [], ◌∷◌, ◌++◌, map, Option, Some, None, Result, Ok, slice_index_or, if◌then◌else◌}
use Rattle.std.specs.List.{flat_map, find, enumerate_from}
use Rattle.std.specs.Option.{option_map}
use Rattle.rv_text.specs.declared.refusals.Refusal.{Refusal}
use Rattle.rv_text.specs.Readings.{refused_with}
use Rattle.rv_model.specs.declared.automaton.Edge.{Edge}
use Rattle.rv_model.specs.Machine.{Machine}
use Rattle.rv_dot.specs.Canonical.{quoted, states_marked}
use Rattle.rv_text.specs.declared.numbers.TheConstants.{NO_HEADER}
use Rattle.rv_header.specs.Naming.{has_no_tables}

-- a C name: the text, and the header's name behind it
abbrev pub tagged : List ℕ → List ℕ → List ℕ
tagged name text = text ++ codes "_" ++ name

-- the names of an enumeration, the first of which is 0
abbrev pub enumerators : List ℕ → List (List ℕ) → List ℕ
enumerators name [] = []
enumerators name (first ∷ later) = tagged name first ++ codes " = 0" ++ flat_map (λ text. codes ",\n\t" ++ tagged name text) later

-- an enumeration
abbrev pub enum_text : List ℕ → List ℕ → List (List ℕ) → List ℕ
enum_text name kind members = codes "enum " ++ tagged name kind ++ codes " {\n\t" ++ enumerators name members ++ codes "\n};\n"

-- the type of the tables
abbrev pub struct_text : List ℕ → List ℕ
struct_text name =
    codes "struct " ++ tagged name (codes "automaton")
    ++ codes " {\n\tchar *state_names[" ++ tagged name (codes "state_max")
    ++ codes "];\n\tchar *event_names[" ++ tagged name (codes "event_max")
    ++ codes "];\n\tunsigned char function[" ++ tagged name (codes "state_max")
    ++ codes "][" ++ tagged name (codes "event_max")
    ++ codes "];\n\tunsigned char initial_state;\n\tbool final_states[" ++ tagged name (codes "state_max")
    ++ codes "];\n};\n"

-- a list: a comma and a blank between its members
abbrev pub list_text : List (List ℕ) → List ℕ
list_text [] = codes "{ }"
list_text (first ∷ later) = codes "{ " ++ first ++ flat_map (λ text. codes ", " ++ text) later ++ codes " }"

-- where the event leads from the state
abbrev pub target_of : List Edge → ℕ → ℕ → Option ℕ
target_of edges from event = option_map (λ (e : Edge). e.to) (find (λ (e : Edge). e.from == from && e.event == event) edges)

-- the state that it leads to, or none
abbrev pub cell_text : List ℕ → List (List ℕ) → Option ℕ → List ℕ
cell_text name states None = codes "INVALID_STATE"
cell_text name states (Some to) = tagged name (slice_index_or states to [])

-- the row of a state: a cell for each event
abbrev pub cells : List ℕ → Machine → ℕ → List (List ℕ)
cells name a from = map (λ event. cell_text name a.states (target_of a.edges from event.0)) (enumerate_from 0 a.events)

-- its line
abbrev pub row_text : List (List ℕ) → List ℕ
row_text row = codes "\t\t" ++ list_text row ++ codes ",\n"

-- the rows of all states
abbrev pub function_text : List ℕ → Machine → List ℕ
function_text name a = flat_map (λ state. row_text (cells name a state.0)) (enumerate_from 0 a.states)

-- whether a state is marked
abbrev pub mark_text : Bool → List ℕ
mark_text is_marked = if is_marked then codes "1" else codes "0"

-- the marks of all states
abbrev pub marks : Machine → List (List ℕ)
marks a = map (λ s. mark_text s.is_marked) (states_marked a.marked a.states)

-- the names and their type
abbrev pub declarations : List ℕ → Machine → List ℕ
declarations name a =
    enum_text name (codes "states") (a.states ++ codes "state_max" ∷ [])
    ++ codes "#define INVALID_STATE " ++ tagged name (codes "state_max") ++ codes "\n"
    ++ enum_text name (codes "events") (a.events ++ codes "event_max" ∷ [])
    ++ struct_text name

-- the tables
abbrev pub tables : List ℕ → Machine → List ℕ
tables name a =
    codes "static const struct " ++ tagged name (codes "automaton") ++ codes " " ++ tagged name (codes "automaton")
    ++ codes " = {\n\t.state_names = " ++ list_text (map quoted a.states)
    ++ codes ",\n\t.event_names = " ++ list_text (map quoted a.events)
    ++ codes ",\n\t.function = {\n" ++ function_text name a
    ++ codes "\t},\n\t.initial_state = " ++ tagged name (slice_index_or a.states 0 [])
    ++ codes ",\n\t.final_states = " ++ list_text (marks a)
    ++ codes ",\n};\n"

-- the whole text
unfoldable pub header_text : List ℕ → Machine → List ℕ
header_text name a = declarations name a ++ tables name a

-- the text of an automaton, or why it has none
abbrev pub header_of : List ℕ → Machine → Result (List ℕ) Refusal
header_of name a = if has_no_tables a then refused_with NO_HEADER else Ok (header_text name a)
