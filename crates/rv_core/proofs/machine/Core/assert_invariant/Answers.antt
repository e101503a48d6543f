use Rattle.std.proofs.Common.{subst}
use Rattle.rv_core.specs.Core.{CoreValue}
use Rattle.rv_core.specs.Judged.{JudgesBySpecs}
use Rattle.rv_core.proofs.JudgedLemmas.{are-judges}
use Rattle.rv_core.proofs.machine.Core.assert_invariant.Goals as goal

pub returns-clause-judges : goal.returns-clause-judges
returns-clause-judges c =
    let P : CoreValue → Type 0 = λ v. JudgesBySpecs v.setup in
    subst P c.self.view_is (λ specs mean. are-judges specs _ c.self.invariant.is_setup.are_tables mean)
