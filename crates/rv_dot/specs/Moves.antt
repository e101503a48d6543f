-- Moves by number: their order, and sets of them.
use Rattle.std.specs.Prelude.{ℕ, List, []}
use Rattle.std.specs.List.{fold}
use Rattle.std.specs.BTreeSet.{insert_key}
use Rattle.std.specs.Ordering.{nat_cmp, ordering_then}
use Rattle.std.specs.declared.cmp.Ordering.{Ordering}
use Rattle.rv_model.specs.declared.automaton.Edge.{Edge}
use Rattle.rv_dot.specs.declared.moves.Move.{Move}
use Rattle.rv_dot.specs.Gathered.{Arc}
use Rattle.rv_dot.specs.Sets.{number_in}

-- by from, then by event, then by to
abbrev pub move_cmp : Move → Move → Ordering
move_cmp a b = ordering_then (nat_cmp a.from b.from) (ordering_then (nat_cmp a.event b.event) (nat_cmp a.to b.to))

-- the moves, ascending, each once
unfoldable pub moves_of : List Move → List Move
moves_of moves = fold (insert_key move_cmp) [] moves

-- an arc by the places of its names
abbrev pub arc_move : List (List ℕ) → List (List ℕ) → Arc → Move
arc_move states events a = record { from = number_in states a.from; event = number_in events a.event; to = number_in states a.to }

-- a move as an edge
abbrev pub edge_of : Move → Edge
edge_of m = record { from = m.from; event = m.event; to = m.to }
