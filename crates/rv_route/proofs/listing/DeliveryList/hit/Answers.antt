-- What the rule of the item hits.
use Rattle.std.proofs.Common.{◌≡◌, length, ap, rules, arith}
use Rattle.std.specs.Vec.{vec_len}
use Rattle.rv_model.specs.declared.work.Delivery.{Delivery}
use Rattle.rv_route.proofs.ListingLemmas.{listed-within, listed-rule, listed-delivery}
use Rattle.rv_route.proofs.listing.DeliveryList.hit.Goals as goal

pub index-item-requires : goal.index-item-requires
index-item-requires c =
    let many : vec_len c.self.inside.items ≡ length c.self.inside.items.items = search rules in
    let within = listed-within c.self.inside.targets.items c.self.inside.items.items c.args.self.now c.self.view_is c.args.place c.requires in
    omega arith

pub index-requires : goal.index-requires
index-requires c =
    let many : vec_len c.self.inside.targets ≡ length c.self.inside.targets.items = search rules in
    let rule = listed-rule c.self.inside.targets.items c.self.inside.items.items c.args.self.now c.self.view_is c.args.place c.requires c.index-item.result.now c.index-item.ensures c.self.invariant.1 in
    omega arith

pub returns : goal.returns
returns c = λ d.
    ap (λ (x : Delivery). x.hit) (listed-delivery c.self.inside.targets.items c.self.inside.items.items c.args.self.now c.self.view_is c.args.place c.requires d c.index-item.result.now c.index.result.now c.index-item.ensures c.self.invariant.1 c.index.ensures)
