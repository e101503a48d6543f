use Rattle.rv_model.proofs.UniqueLemmas.{one_has_no_stop, one_is_unique}
use Rattle.rv_model.proofs.laws.one_history.Goals as goal

pub returns-clause-stop : goal.returns-clause-stop
returns-clause-stop c = one_has_no_stop

pub returns-clause-unique : goal.returns-clause-unique
returns-clause-unique c = one_is_unique
