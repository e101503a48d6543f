use Rattle.std.proofs.Common.{◌≡◌, map, take}
use Rattle.rv_dot.specs.Moves.{edge_of}
use Rattle.rv_dot.proofs.drawing.edges.Given as goal

abbrev pub invariant-moves : goal.invariant-moves
invariant-moves l = l.edges.items ≡ map edge_of (take l.one-index l.moves)
