use Rattle.rv_route.proofs.MoveLemmas.{routes_of-more, line_routes-moved}
use Rattle.rv_route.proofs.RoutingLemmas.{line-last}
use Rattle.rv_route.proofs.laws.lines_are_routed_alike.Goals as goal

pub returns-clause-more : goal.returns-clause-more
returns-clause-more c text more monitors rules lines routes lie = routes_of-more text more monitors rules lines routes lie

pub returns-clause-last : goal.returns-clause-last
returns-clause-last c text monitors rules lines line routes = line-last text monitors rules lines line routes

pub returns-clause-moved : goal.returns-clause-moved
returns-clause-moved c text own from line monitors rules routes lies is inside = line_routes-moved text own from line monitors rules routes lies is
