use Rattle.rv_laws.proofs.CpuLemmas.{cpu_slots_are_lone, all_by_cpu_are_lone}
use Rattle.rv_laws.proofs.laws.cpu_slots_have_one_writer.Goals as goal

pub returns-clause-slot : goal.returns-clause-slot
returns-clause-slot c = cpu_slots_are_lone

pub returns-clause-all : goal.returns-clause-all
returns-clause-all c = all_by_cpu_are_lone
