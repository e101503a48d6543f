-- The delivery goes last.
use Rattle.std.proofs.Common.{refl, sym, ap}
use Rattle.rv_route.specs.inner.Gathering.{Gathered}
use Rattle.rv_route.proofs.ListingLemmas.{list-added, list-takes}
use Rattle.rv_route.proofs.deliveries.Deliveries.list.Goals as goal

pub returns-clause-added : goal.returns-clause-added
returns-clause-added c = λ rule is.
    let s = c.self.inside in
    list-added c.args.self.now s.tasks s.targets.items s.lanes.items s.items.items c.push.new.self.items s.listed s.count c.args.line.now c.args.place c.args.instance rule c.self.view_is c.requires.listed c.self.invariant.4 c.in_ok-push.ensures.items is

pub returns-clause-kept : goal.returns-clause-kept
returns-clause-kept c =
    let s = c.self.inside in
    list-takes c.args.self.now _ s.targets.items s.items.items c.push.new.self.items (record { line = c.args.line.now.number; instance = c.args.instance; rule = c.args.place; cpu = c.args.line.now.cpu }) c.requires.cpu
    (sym (ap (λ (g : Gathered). g.targets) c.self.view_is)) (sym (ap (λ (g : Gathered). g.listed) c.self.view_is)) (ap (λ (g : Gathered). g.list) c.self.view_is) refl c.in_ok-push.ensures.items
