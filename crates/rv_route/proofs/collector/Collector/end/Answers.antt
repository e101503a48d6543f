-- The works are those of the lanes.
use Rattle.std.proofs.Common.{◌≡◌, ◌≤◌, length, sym, ap, ◌∙◌, subst, arith}
use Rattle.std.specs.Prelude.{All}
use Rattle.std.proofs.lemmas.List.Elements.{All-weaker}
use Rattle.rv_route.specs.declared.deliveries.TheConstants.{MAX_DELIVERIES}
use Rattle.rv_route.specs.Lanes.{LaneValue, IsLane}
use Rattle.rv_route.specs.Routers.{RouterValue}
use Rattle.rv_route.specs.LineByLine.{works_of}
use Rattle.rv_route.specs.inner.Gathering.{Gathered}
use Rattle.rv_route.proofs.ListingLemmas.{lanes-scripts}
use Rattle.rv_route.proofs.WorksLemmas.{AreShort, works_fit}
use Rattle.rv_route.proofs.collector.Collector.end.Goals as goal

pub works_in-requires-clause-lanes : goal.works_in-requires-clause-lanes
works_in-requires-clause-lanes c =
    let s = c.deliveries.inside in
    let own = lanes-scripts s.tasks s.targets.items s.lanes.items s.items.items s.listed s.count c.self.inside.deliveries c.deliveries.view_is (ap (λ (r : RouterValue). r.listed) c.self.view_is ∙ c.requires.scripts) in
    subst (All IsLane) (sym own) (c.self.invariant.2 (ap (λ (r : RouterValue). r.refused) c.self.view_is ∙ c.requires.accepted))

pub returns-clause-value : goal.returns-clause-value
returns-clause-value c =
    let s = c.deliveries.inside in
    let own = lanes-scripts s.tasks s.targets.items s.lanes.items s.items.items s.listed s.count c.self.inside.deliveries c.deliveries.view_is (ap (λ (r : RouterValue). r.listed) c.self.view_is ∙ c.requires.scripts) in
    let tasks : s.tasks ≡ c.args.self.routes.tasks = ap (λ (g : Gathered). g.routes.tasks) c.deliveries.view_is ∙ ap (λ (r : RouterValue). r.routes.tasks) c.self.view_is in
    let works : c.works_in.result.items ≡ works_of c.args.self.routes.lanes = c.works_in.ensures ∙ ap works_of own ∙ ap (λ (r : RouterValue). works_of r.routes.lanes) c.self.view_is in
    λ i. record { tasks = tasks i; works = works i }

pub returns-clause-fit : goal.returns-clause-fit
returns-clause-fit c = λ kinds fits.
    let s = c.deliveries.inside in
    let own = lanes-scripts s.tasks s.targets.items s.lanes.items s.items.items s.listed s.count c.self.inside.deliveries c.deliveries.view_is (ap (λ (r : RouterValue). r.listed) c.self.view_is ∙ c.requires.scripts) in
    let lanes = own ∙ ap (λ (r : RouterValue). r.routes.lanes) c.self.view_is in
    let tasks : s.tasks ≡ c.args.self.routes.tasks = ap (λ (g : Gathered). g.routes.tasks) c.deliveries.view_is ∙ ap (λ (r : RouterValue). r.routes.tasks) c.self.view_is in
    let count = c.deliveries.invariant.1 in
    let short : AreShort MAX_DELIVERIES s.lanes.items = All-weaker (λ (l : LaneValue). length l.deliveries ≤ s.count) (λ (l : LaneValue). length l.deliveries ≤ MAX_DELIVERIES) (λ l le. omega arith) s.lanes.items c.deliveries.invariant.2 in
    rw (tasks, c.works_in.ensures ∙ ap works_of lanes) (works_fit kinds c.args.self.next c.args.self.routes fits (subst (AreShort MAX_DELIVERIES) lanes short))
