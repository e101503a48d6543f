use Rattle.rv_control.proofs.ReadBackLemmas.{flag-back, reactor-back}
use Rattle.rv_control.proofs.laws.writes_are_read_back.Goals as goal

pub returns-clause-flag : goal.returns-clause-flag
returns-clause-flag c tree after files path text append change writes = flag-back tree files path text append after change writes

pub returns-clause-reactor : goal.returns-clause-reactor
returns-clause-reactor c tree after files path text append change writes = reactor-back tree files path text append after change writes
