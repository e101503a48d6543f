use Rattle.rv_control.proofs.ReadBackLemmas.{writes-clear}
use Rattle.rv_control.proofs.laws.the_cleared_go_on.Goals as goal

pub returns : goal.returns
returns c tree after path text append change writes = writes-clear tree path text append after change writes
