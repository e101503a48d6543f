use Rattle.std.proofs.Common.{◌≡◌, ◌++◌, take}
use Rattle.rv_react.specs.inner.Parts.{joined}
use Rattle.rv_react.proofs.pieces.append.Given as goal

abbrev pub invariant-loop-piece : goal.invariant-loop-piece
invariant-loop-piece l = l.out ≡ l.initial.out ++ joined (take l.piece-index l.pieces)
