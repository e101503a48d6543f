use Rattle.rv_laws.proofs.VerdictLemmas.{lone_records_are_one, all_records_are_one}
use Rattle.rv_laws.proofs.laws.single_writer_records_are_one.Goals as goal

pub returns-clause-slot : goal.returns-clause-slot
returns-clause-slot c = lone_records_are_one

pub returns-clause-all : goal.returns-clause-all
returns-clause-all c = all_records_are_one
