-- Where a lane goes on with the first line that may come, it has the least.
use Rattle.std.proofs.Common.{map}
use Rattle.rv_feed.proofs.LineLemmas.{least-from}
use Rattle.rv_feed.proofs.ViewLemmas.{view-inside}
use Rattle.rv_feed.proofs.order.next_lane.Goals as goal

pub returns-then-goes_on : goal.returns-then-goes_on
returns-then-goes_on g c = λ places has later.
    let view = g.L.Keeper.lane in
    least-from places c.args.lines.now (map view c.args.lanes.now) (record { lane = c.args.last; line = c.args.from }) has later c.requires.few (view-inside view c.args.lanes.now c.args.last (c.goes_on.ensures.within c.if-goes_on.true)) (λ d. c.goes_on.ensures.line d c.if-goes_on.true)

pub returns-then-goes_on-2 : goal.returns-then-goes_on-2
returns-then-goes_on-2 g c = λ places has later.
    let view = g.L.Keeper.lane in
    let other = c.if-behind-lanes.other in
    least-from places c.args.lines.now (map view c.args.lanes.now) (record { lane = other; line = c.args.from }) has later c.requires.few (view-inside view c.args.lanes.now other (c.goes_on-2.ensures.within c.if-goes_on-2.true)) (λ d. c.goes_on-2.ensures.line d c.if-goes_on-2.true)

pub returns : goal.returns
returns g c = λ places has later. c.least.ensures places has
