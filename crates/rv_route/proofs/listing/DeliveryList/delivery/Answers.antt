-- The item at the place, and what its rule hits.
use Rattle.std.proofs.Common.{◌≡◌, length, rules, arith}
use Rattle.std.specs.Vec.{vec_len}
use Rattle.rv_route.proofs.ListingLemmas.{listed-within, listed-rule, listed-delivery}
use Rattle.rv_route.proofs.listing.DeliveryList.delivery.Goals as goal

pub index-item-requires : goal.index-item-requires
index-item-requires c =
    let many : vec_len c.self.inside.items ≡ length c.self.inside.items.items = search rules in
    let within = listed-within c.self.inside.targets.items c.self.inside.items.items c.args.self.now c.self.view_is c.args.place c.requires in
    omega arith

pub index-target-requires : goal.index-target-requires
index-target-requires c =
    let many : vec_len c.self.inside.targets ≡ length c.self.inside.targets.items = search rules in
    let rule = listed-rule c.self.inside.targets.items c.self.inside.items.items c.args.self.now c.self.view_is c.args.place c.requires c.index-item.result.now c.index-item.ensures c.self.invariant.1 in
    omega arith

pub overflow_cast-result : goal.overflow_cast-result
overflow_cast-result c =
    let within = listed-within c.self.inside.targets.items c.self.inside.items.items c.args.self.now c.self.view_is c.args.place c.requires in
    let few = c.self.invariant.0 in
    omega arith

pub returns-clause-is : goal.returns-clause-is
returns-clause-is c = λ d.
    listed-delivery c.self.inside.targets.items c.self.inside.items.items c.args.self.now c.self.view_is c.args.place c.requires d c.index-item.result.now c.index-target.result.now c.index-item.ensures c.self.invariant.1 c.index-target.ensures
