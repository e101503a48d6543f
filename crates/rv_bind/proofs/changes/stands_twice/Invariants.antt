use Rattle.std.proofs.Common.{◌≡◌, length}
use Rattle.rv_bind.specs.Changes.{stands_twice}
use Rattle.rv_ltl.specs.inner.Texts.{texts}
use Rattle.rv_bind.proofs.TwiceLemmas.{stands_beside}
use Rattle.rv_bind.proofs.changes.stands_twice.Given as goal

abbrev pub invariant-loop-rest : goal.invariant-loop-rest
invariant-loop-rest l = stands_beside l.names.keys (texts l.rest) ≡ stands_twice (texts l.fn.words)

abbrev pub decreases-loop-rest : goal.decreases-loop-rest
decreases-loop-rest l = length l.rest
