use Rattle.rv_model.proofs.TruthLemmas.{tells}
use Rattle.rv_model.proofs.laws.satisfaction_is_tested.Goals as goal

pub returns : goal.returns
returns c formula view letters = tells formula view letters
