use Rattle.rv_laws.proofs.UnclearedLemmas.{uncleared_has_no_stop, all_uncleared_have_no_stop, all_uncleared_give_no_six}
use Rattle.rv_laws.proofs.laws.uncleared_slots_are_not_stopped.Goals as goal

pub returns-clause-slot : goal.returns-clause-slot
returns-clause-slot c = uncleared_has_no_stop

pub returns-clause-all : goal.returns-clause-all
returns-clause-all c = all_uncleared_have_no_stop

pub returns-clause-status : goal.returns-clause-status
returns-clause-status c = all_uncleared_give_no_six
