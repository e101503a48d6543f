-- As many as there are items.
use Rattle.std.proofs.Common.{◌≡◌, length, sym, ap, ◌∙◌, rules}
use Rattle.std.specs.Vec.{vec_len}
use Rattle.rv_route.proofs.ListingLemmas.{length-listed_from}
use Rattle.rv_route.proofs.listing.DeliveryList.len.Goals as goal

pub returns : goal.returns
returns c =
    let many : vec_len c.self.inside.items ≡ length c.self.inside.items.items = search rules in
    c.len.ensures ∙ many ∙ sym (length-listed_from c.self.inside.targets.items 0 c.self.inside.items.items) ∙ ap length c.self.view_is
