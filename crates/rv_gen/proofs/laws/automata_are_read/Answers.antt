use Rattle.rv_gen.proofs.ReadLemmas.{wip_read, wwnr_read}
use Rattle.rv_gen.proofs.laws.automata_are_read.Goals as goal

pub returns-clause-wip : goal.returns-clause-wip
returns-clause-wip c = wip_read

pub returns-clause-wwnr : goal.returns-clause-wwnr
returns-clause-wwnr c = wwnr_read
