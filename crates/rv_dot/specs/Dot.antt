-- The automaton of a DOT text, or why it is refused (Linux, Documentation/trace/rv/deterministic_automata.rst; the subset is this project's choice).
use Rattle.std.specs.Prelude.{ℕ, ◌+◌, ◌*◌, Bool, not, ◌&&◌, ◌==◌, nat_lt, List, [], ◌∷◌, length, map, Option, Some, None, Result, Ok, if◌then◌else◌}
use Rattle.std.specs.List.{filter, list_all, list_any}
use Rattle.std.specs.Str.{bytes_eq}
use Rattle.rv_text.specs.declared.refusals.Refusal.{Refusal}
use Rattle.rv_text.specs.declared.numbers.TheConstants.{DOT_SYNTAX, NO_INITIAL, TWO_INITIALS, UNDECLARED_STATE, NOT_DETERMINISTIC, TOO_MANY_STATES, TOO_MANY_EVENTS}
use Rattle.rv_text.specs.Readings.{refused_with, and_then}
use Rattle.rv_model.specs.Machine.{Machine}
use Rattle.rv_dot.specs.Text.{said_by}
use Rattle.rv_dot.specs.Statements.{Claim}
use Rattle.rv_dot.specs.Gathered.{Arc, states_in, targets_in, arcs_in, all_fit, is_marked}
use Rattle.rv_dot.specs.Sets.{ascending, stands_in}
use Rattle.rv_dot.specs.Moves.{moves_of, arc_move, edge_of}

-- both ends are declared
abbrev pub ends_declared : List (List ℕ) → Arc → Bool
ends_declared declared a = stands_in declared a.from && stands_in declared a.to

-- from one state by one event to two targets
abbrev pub are_apart : Arc → Arc → Bool
are_apart a b = bytes_eq a.from b.from && bytes_eq a.event b.event && not (bytes_eq a.to b.to)

-- a state and an event have two different targets
unfoldable pub has_conflict : List Arc → Bool
has_conflict arcs = list_any (λ a. list_any (are_apart a) arcs) arcs

-- the initial state, and then the others ascending
unfoldable pub states_from : List ℕ → List (List ℕ) → List (List ℕ)
states_from initial declared = initial ∷ filter (λ s. not (bytes_eq s initial)) (ascending declared)

-- the events of the arcs, ascending
unfoldable pub events_from : List Arc → List (List ℕ)
events_from arcs = ascending (map (λ a. a.event) arcs)

-- the number whose bit k is the kth test, from the lowest on
abbrev pub bits_of : List Bool → ℕ
bits_of [] = 0
bits_of (b ∷ bits) = (if b then 1 else 0) + 2 * bits_of bits

-- without a marked state the initial one is marked
abbrev pub marked_or_initial : ℕ → ℕ
marked_or_initial bits = if bits == 0 then 1 else bits

-- the automaton with this initial state
unfoldable pub machine_from : List Claim → List ℕ → Machine
machine_from claims initial = record {
  states = states_from initial (states_in claims);
  events = events_from (arcs_in claims);
  edges = map edge_of (moves_of (map (arc_move (states_from initial (states_in claims)) (events_from (arcs_in claims))) (arcs_in claims)));
  marked = marked_or_initial (bits_of (map (is_marked claims) (states_from initial (states_in claims))));
}

-- the first of the later refusals that applies, or the automaton
unfoldable pub with_initial : List Claim → List ℕ → Result Machine Refusal
with_initial claims initial =
    if not (stands_in (states_in claims) initial && list_all (ends_declared (states_in claims)) (arcs_in claims)) then refused_with UNDECLARED_STATE
    else (if has_conflict (arcs_in claims) then refused_with NOT_DETERMINISTIC
    else (if nat_lt 31 (length (states_from initial (states_in claims))) then refused_with TOO_MANY_STATES
    else (if nat_lt 64 (length (events_from (arcs_in claims))) then refused_with TOO_MANY_EVENTS
    else Ok (machine_from claims initial))))

-- the one target of the edges that leave markers
abbrev pub initial_of : List (List ℕ) → Result (List ℕ) Refusal
initial_of [] = refused_with NO_INITIAL
initial_of (first ∷ others) = if list_all (bytes_eq first) others then Ok first else refused_with TWO_INITIALS

-- what the statements say, as an automaton
unfoldable pub machine_of : List Claim → Result Machine Refusal
machine_of claims = if all_fit claims then and_then (initial_of (targets_in claims)) (with_initial claims) else refused_with DOT_SYNTAX

-- what a text of the grammar says, as an automaton
abbrev pub machine_said : Option (List Claim) → Result Machine Refusal
machine_said None = refused_with DOT_SYNTAX
machine_said (Some claims) = machine_of claims

-- the automaton of a text
unfoldable pub dot_of : List ℕ → Result Machine Refusal
dot_of bytes = if nat_lt 1048576 (length bytes) then refused_with DOT_SYNTAX else machine_said (said_by bytes)
