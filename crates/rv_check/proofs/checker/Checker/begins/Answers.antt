-- Without its entries the run's history is a beginning.
use Rattle.std.proofs.Common.{[], refl, subst, arith}
use Rattle.rv_model.specs.Numbers.{has_bit}
use Rattle.rv_core.specs.Setup.{judges_of}
use Rattle.rv_check.specs.Checker.{CheckerValue, IsBegun}
use Rattle.rv_check.proofs.BeginningLemmas.{begins-before}
use Rattle.rv_check.proofs.checker.Checker.begins.Goals as goal

pub returns : goal.returns
returns c =
    let r = c.self.inside.run in
    subst (λ (v : CheckerValue). IsBegun (record v { lines = [] })) c.self.view_is
    ([], record { entries = λ k d lt. absurd (omega arith); texts = refl }, begins-before r.setup (judges_of r.setup) (has_bit r.panics) r.works r.history [] c.assert_invariant.ensures)
