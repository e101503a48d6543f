use Rattle.std.proofs.Common.{◌≡◌, length}
use Rattle.rv_bind.specs.Changes.{are_known}
use Rattle.rv_ltl.specs.inner.Texts.{texts}
use Rattle.rv_bind.proofs.changes.are_known.Given as goal

abbrev pub invariant-loop-rest : goal.invariant-loop-rest
invariant-loop-rest l = are_known l.atoms (texts l.rest) ≡ are_known l.atoms (texts l.fn.words)

abbrev pub decreases-loop-rest : goal.decreases-loop-rest
decreases-loop-rest l = length l.rest
