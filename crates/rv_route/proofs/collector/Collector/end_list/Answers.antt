-- The works of the list are those of its lanes.
use Rattle.std.proofs.Common.{◌≡◌, ◌≤◌, List, length, ap, ◌∙◌, subst, arith}
use Rattle.rv_route.specs.declared.deliveries.TheConstants.{MAX_DELIVERIES}
use Rattle.rv_route.specs.LineByLine.{works_of}
use Rattle.rv_route.specs.Listing.{ListedDelivery, listed_from}
use Rattle.rv_route.specs.inner.Gathering.{Gathered}
use Rattle.rv_route.specs.Routers.{RouterValue}
use Rattle.rv_route.proofs.ListingLemmas.{lanes-list, length-listed_from, listed_few}
use Rattle.rv_route.proofs.WorksLemmas.{AreShort, works_fit}
use Rattle.rv_route.proofs.collector.Collector.end_list.Goals as goal

pub returns-clause-value : goal.returns-clause-value
returns-clause-value c =
    let s = c.deliveries.inside in
    let lanes = lanes-list s.tasks s.targets.items s.lanes.items s.items.items s.listed s.count c.self.inside.deliveries c.deliveries.view_is (ap (λ (r : RouterValue). r.listed) c.self.view_is ∙ c.requires.list) ∙ ap (λ (r : RouterValue). r.routes.lanes) c.self.view_is in
    let tasks : s.tasks ≡ c.args.self.routes.tasks = ap (λ (g : Gathered). g.routes.tasks) c.deliveries.view_is ∙ ap (λ (r : RouterValue). r.routes.tasks) c.self.view_is in
    λ i. record { tasks = tasks i; works = works_of (lanes i) }

pub returns-clause-fit : goal.returns-clause-fit
returns-clause-fit c = λ kinds fits.
    let s = c.deliveries.inside in
    let lanes = lanes-list s.tasks s.targets.items s.lanes.items s.items.items s.listed s.count c.self.inside.deliveries c.deliveries.view_is (ap (λ (r : RouterValue). r.listed) c.self.view_is ∙ c.requires.list) ∙ ap (λ (r : RouterValue). r.routes.lanes) c.self.view_is in
    let tasks : s.tasks ≡ c.args.self.routes.tasks = ap (λ (g : Gathered). g.routes.tasks) c.deliveries.view_is ∙ ap (λ (r : RouterValue). r.routes.tasks) c.self.view_is in
    let on = ap (λ (g : Gathered). g.listed) c.deliveries.view_is ∙ ap (λ (r : RouterValue). r.listed) c.self.view_is ∙ c.requires.list in
    let list : List ListedDelivery = listed_from s.targets.items 0 s.items.items in
    let short : length list ≤ MAX_DELIVERIES = let many = length-listed_from s.targets.items 0 s.items.items in let count = c.deliveries.invariant.4 on in let few = c.deliveries.invariant.1 in omega arith in
    rw (tasks, lanes) (works_fit kinds c.args.self.next c.args.self.routes fits (subst (AreShort MAX_DELIVERIES) lanes (listed_few list MAX_DELIVERIES short)))
