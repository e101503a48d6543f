-- The item at the place.
use Rattle.std.proofs.Common.{◌≡◌, length, sym, ap, rules, arith}
use Rattle.std.specs.Vec.{vec_len}
use Rattle.rv_route.specs.Listing.{ListedDelivery}
use Rattle.rv_route.proofs.ListingLemmas.{listed-within, listed-here}
use Rattle.rv_route.proofs.listing.DeliveryList.line.Goals as goal

pub index-requires : goal.index-requires
index-requires c =
    let many : vec_len c.self.inside.items ≡ length c.self.inside.items.items = search rules in
    let within = listed-within c.self.inside.targets.items c.self.inside.items.items c.args.self.now c.self.view_is c.args.place c.requires in
    omega arith

pub returns : goal.returns
returns c = λ d.
    ap (λ (x : ListedDelivery). x.line) (sym (listed-here c.self.inside.targets.items c.self.inside.items.items c.args.self.now c.self.view_is c.args.place c.requires d c.index.result.now c.index.ensures))
