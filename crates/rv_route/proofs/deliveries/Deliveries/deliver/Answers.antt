use Rattle.std.proofs.Common.{◌≡◌, true, false, ◌≤◌, ◌<◌, ◌+◌, length, subst, sym, ◌∙◌, arith, length-set}
use Rattle.rv_route.specs.Lanes.{LaneValue}
use Rattle.rv_route.proofs.LaneLemmas.{lanes_few}
use Rattle.rv_route.proofs.deliveries.Deliveries.deliver.Goals as goal

pub invariant_of-self : goal.invariant_of-self
invariant_of-self c =
    let lanes = c.self.inside.lanes.items in
    let cpu = c.args.line.now.cpu in
    let was : LaneValue = c.index_mut.result.now in
    let many = c.self.invariant.0 in
    let within : cpu < length lanes = let r = c.requires in omega arith in
    let few : length was.deliveries ≤ c.self.inside.count = subst (λ (l : LaneValue). length l.deliveries ≤ c.self.inside.count) (sym c.index_mut.ensures.value) (c.self.invariant.2 cpu was within) in
    let one : length c.add.new.self.deliveries ≤ c.self.inside.count + 1 = let f = c.add.ensures.few in omega arith in
    (length-set lanes cpu c.add.new.self ∙ many, (let room = c.if-self-ge-MAX_DELIVERIES.false in omega arith), lanes_few lanes cpu c.self.inside.count c.add.new.self c.self.invariant.2 one, c.self.invariant.3, (λ on. let no : true ≡ false = sym on ∙ c.if-self.false in cc), c.self.invariant.5)
