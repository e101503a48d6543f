-- A lane more, whose next line is smaller or not.
use Rattle.std.proofs.Common.{◌≡◌, ◌-◌, ◌≤◌, ℕ, List, length, map, get_or, arith, ap, ◌∙◌}
use Rattle.std.specs.Prelude.{slice_index}
use Rattle.std.proofs.lemmas.List.{length-map}
use Rattle.rv_feed.specs.Lane.{LaneValue}
use Rattle.rv_feed.proofs.ViewLemmas.{view-inside, view-at, best-less, best-stays, best-least}
use Rattle.rv_feed.proofs.order.least.Goals as goal
use Rattle.rv_feed.proofs.order.least.Goals.{then-line-best, else-line-best}

pub loop-at-preserved : goal.loop-at-preserved
loop-at-preserved g c =
    let view = g.L.Keeper.lane in
    let all : List g.row.L.Denot = c.args.lanes.now in
    let seen : List LaneValue = map view all in
    let lines : List ℕ = c.args.lines.now in
    let k = c.loop-at.at in
    let x : g.row.L.Denot = c.index-lanes-at.result in
    let d : LaneValue = view x in
    let inside = view-inside view all k c.loop-at-test.true in
    let is : d ≡ get_or seen k d = view-at view all k x d c.loop-at-test.true c.index-lanes-at.is in
    let cpu : c.seat_of.result - 2 ≡ (get_or seen k d).work.cpu = (let s = c.seat_of.ensures in omega arith) ∙ ap (λ (l : LaneValue). l.work.cpu) is in
    let line : slice_index lines (c.seat_of.result - 2) ≡ slice_index lines (get_or seen k d).work.cpu = ap (slice_index lines) cpu in
    let few = c.loop-at.invariant.0 in
    let was = c.loop-at.invariant.1 in
    elim c.if-line-best.branch [
      | then-line-best w ↦ rw w.best-is (let less = w.if-line-best.true in omega arith, λ places has. best-less places lines seen has c.loop-at.best.lane c.loop-at.best.line k d _ inside line w.if-line-best.true few (was places has))
      | else-line-best w ↦ rw w.best-is (few, λ places has. best-stays places lines seen has c.loop-at.best.lane c.loop-at.best.line k d _ inside line w.if-line-best.false (was places has))
    ]

pub returns : goal.returns
returns g c = λ places has.
    let all : List g.row.L.Denot = c.args.lanes.now in
    let end : length (map g.L.Keeper.lane all) ≤ c.loop-at.at = let n = length-map all g.L.Keeper.lane in let t = c.loop-at-test.false in omega arith in
    best-least places (map g.L.Keeper.lane all) c.loop-at.best c.loop-at.at end (c.loop-at.invariant.1 places has)
