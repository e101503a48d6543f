use Rattle.rv_laws.proofs.CpuJoinLemmas.{cpu_works_are_parts}
use Rattle.rv_laws.proofs.CpuPartLemmas.{cpu_work_is_part}
use Rattle.rv_laws.proofs.laws.cpu_works_are_parts.Goals as goal

pub returns-clause-part : goal.returns-clause-part
returns-clause-part c = cpu_work_is_part

pub returns-clause-all : goal.returns-clause-all
returns-clause-all c = cpu_works_are_parts
