use Rattle.std.proofs.Common.{◌≡◌, length}
use Rattle.rv_dot.specs.inner.Clashes.{has_clash}
use Rattle.rv_dot.proofs.moves.clash.Given as goal

abbrev pub invariant-moves : goal.invariant-moves
invariant-moves l = has_clash l.rest ≡ has_clash l.moves

abbrev pub decreases-moves : goal.decreases-moves
decreases-moves l = length l.rest
