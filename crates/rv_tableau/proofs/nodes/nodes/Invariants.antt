use Rattle.std.proofs.Common.{◌≡◌}
use Rattle.rv_nnf.specs.Views.{part_values}
use Rattle.rv_tableau.specs.Nodes.{nodes_of}
use Rattle.rv_tableau.proofs.Turns.{left}
use Rattle.rv_tableau.proofs.nodes.nodes.Given as goal

abbrev pub invariant-loop-i : goal.invariant-loop-i
invariant-loop-i l = left (part_values l.parts) l.i l.sets.items l.nodes.items ≡ nodes_of (part_values l.parts)
