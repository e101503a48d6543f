use Rattle.rv_laws.proofs.VerdictLemmas.{lone_records_agree, all_records_agree}
use Rattle.rv_laws.proofs.laws.single_writer_records_agree.Goals as goal

pub returns-clause-slot : goal.returns-clause-slot
returns-clause-slot c = lone_records_agree

pub returns-clause-all : goal.returns-clause-all
returns-clause-all c = all_records_agree
