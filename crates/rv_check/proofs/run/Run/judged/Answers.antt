-- Tables that mean specifications judge by them.
use Rattle.std.proofs.Common.{subst}
use Rattle.rv_core.specs.Judged.{JudgesBySpecs}
use Rattle.rv_core.proofs.JudgedLemmas.{are-judges}
use Rattle.rv_check.specs.Run.{RunValue}
use Rattle.rv_check.proofs.run.Run.judged.Goals as goal

pub returns : goal.returns
returns c =
    let P : RunValue → Type 0 = λ v. JudgesBySpecs v.setup in
    subst P c.self.view_is (λ specs mean. are-judges specs _ c.self.invariant.core.is_setup.are_tables mean)
