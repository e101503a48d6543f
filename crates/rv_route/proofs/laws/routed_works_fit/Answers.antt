use Rattle.rv_route.proofs.AcceptedLemmas.{routed_works_fit}
use Rattle.rv_route.proofs.laws.routed_works_fit.Goals as goal

pub returns : goal.returns
returns c = routed_works_fit
