use Rattle.rv_bind.proofs.RefusedLemmas.{bindings_refused}
use Rattle.rv_bind.proofs.laws.bindings_have_numbers.Goals as goal

pub returns : goal.returns
returns c = bindings_refused
