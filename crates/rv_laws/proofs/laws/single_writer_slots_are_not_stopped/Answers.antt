use Rattle.rv_laws.proofs.StopLemmas.{lone_has_no_stop, all_lone_have_no_stop}
use Rattle.rv_laws.proofs.StatusLemmas.{all_lone_give_no_six}
use Rattle.rv_laws.proofs.laws.single_writer_slots_are_not_stopped.Goals as goal

pub returns-clause-slot : goal.returns-clause-slot
returns-clause-slot c = lone_has_no_stop

pub returns-clause-all : goal.returns-clause-all
returns-clause-all c = all_lone_have_no_stop

pub returns-clause-status : goal.returns-clause-status
returns-clause-status c = all_lone_give_no_six
