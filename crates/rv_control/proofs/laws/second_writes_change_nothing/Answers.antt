use Rattle.rv_control.proofs.AgainLemmas.{again-kept, again-quiet}
use Rattle.rv_control.proofs.laws.second_writes_change_nothing.Goals as goal

pub returns-clause-files : goal.returns-clause-files
returns-clause-files c tree after files path text append change writes = again-kept tree files path text append after change writes

pub returns-clause-quiet : goal.returns-clause-quiet
returns-clause-quiet c tree after files path text append change writes = again-quiet tree files path text append after change writes
