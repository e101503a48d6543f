use Rattle.rv_route.proofs.FilteredLemmas.{routed_by_fired_lines}
use Rattle.rv_route.proofs.RenumberedLemmas.{routed_renumbered}
use Rattle.rv_route.proofs.laws.fired_lines_are_enough.Goals as goal

pub returns-clause-fired : goal.returns-clause-fired
returns-clause-fired c = routed_by_fired_lines

pub returns-clause-renumbered : goal.returns-clause-renumbered
returns-clause-renumbered c = routed_renumbered
