use Rattle.rv_model.proofs.SlotLemmas.{slots_apart}
use Rattle.rv_model.proofs.laws.slots_apart.Goals as goal

pub returns : goal.returns
returns c = slots_apart
