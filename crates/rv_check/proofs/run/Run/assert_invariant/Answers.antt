-- Its history has begun.
use Rattle.std.proofs.Common.{subst}
use Rattle.rv_check.specs.Run.{RunValue, BeginsRun}
use Rattle.rv_check.proofs.RunLemmas.{run-begins}
use Rattle.rv_check.proofs.run.Run.assert_invariant.Goals as goal

pub returns : goal.returns
returns c = subst (λ (v : RunValue). BeginsRun v v.history) c.self.view_is (run-begins c.self.invariant)
