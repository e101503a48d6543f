use Rattle.std.proofs.Common.{sym, subst}
use Rattle.rv_route.specs.Fitting.{FitsLines}
use Rattle.rv_route.specs.Routers.{RouterValue}
use Rattle.rv_route.proofs.router.Router.end.Goals as goal

pub returns-clause-fit : goal.returns-clause-fit
returns-clause-fit c = λ kinds fits. c.end.ensures.fit kinds (subst (λ (r : RouterValue). FitsLines kinds r.next r.routes) (sym c.self.view_is) fits)
