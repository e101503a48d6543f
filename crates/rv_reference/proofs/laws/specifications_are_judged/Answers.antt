use Rattle.rv_reference.proofs.SpecJudgeLemmas.{every_spec_is_judged}
use Rattle.rv_reference.proofs.laws.specifications_are_judged.Goals as goal

pub returns : goal.returns
returns c = every_spec_is_judged
