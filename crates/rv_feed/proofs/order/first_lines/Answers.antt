-- A lane more has its line.
use Rattle.std.proofs.Common.{◌≡◌, ◌-◌, ◌<◌, ℕ, ◌+◌, List, length, map, replicate, set, get_or, arith, refl, sym, subst, ap, ◌∙◌, length-set}
use Rattle.rv_feed.specs.Lane.{LaneValue}
use Rattle.rv_feed.specs.inner.SoFar.{HasLine}
use Rattle.rv_feed.proofs.LineLemmas.{HasLinesTo, lines-more}
use Rattle.rv_feed.proofs.ViewLemmas.{view-inside, lane-inside, view-at, view-holds}
use Rattle.rv_feed.proofs.order.first_lines.Goals as goal

pub loop-at-init : goal.loop-at-init
loop-at-init g c = (refl, λ k d lt. absurd (omega arith))

pub loop-at-preserved : goal.loop-at-preserved
loop-at-preserved g c =
    let view = g.L.Keeper.lane in
    let all : List g.row.L.Denot = c.args.lanes.now in
    let lanes : List LaneValue = map view all in
    let k = c.loop-at.at in
    let x : g.row.L.Denot = c.index-lanes-at.result in
    let d : LaneValue = view x in
    let is : d ≡ get_or lanes k d = view-at view all k x d c.loop-at-test.true c.index-lanes-at.is in
    let line = c.line_of.result in
    let has : HasLine (replicate 64 0) d line = record { line_is = c.line_of.ensures.line; range = c.line_of.ensures.range; few = c.line_of.ensures.none; pending = c.line_of.ensures.pending } in
    let cpu : c.seat_of.result - 2 ≡ (get_or lanes k d).work.cpu = (let s = c.seat_of.ensures in omega arith) ∙ ap (λ (l : LaneValue). l.work.cpu) is in
    let fits : (get_or lanes k d).work.cpu < length c.loop-at.lines = let f = view-holds view all (λ (l : LaneValue). l.work.cpu < 64) c.requires.cpu k x d c.loop-at-test.true in let n = c.loop-at.invariant.0 in omega arith in (
      length-set c.loop-at.lines (c.seat_of.result - 2) line ∙ c.loop-at.invariant.0,
      subst (λ (n : ℕ). HasLinesTo (replicate 64 0) (set c.loop-at.lines n line) lanes (k + 1)) (sym cpu)
          (lines-more c.loop-at.lines lanes c.requires.cpus k d (view-inside view all k c.loop-at-test.true) fits (replicate 64 0) line c.loop-at.invariant.1 (subst (λ (l : LaneValue). HasLine (replicate 64 0) l line) is has)),
    )

pub returns : goal.returns
returns g c = λ k d lt. let inside = lane-inside g.L.Keeper.lane c.args.lanes.now k lt in c.loop-at.invariant.1 k d (omega arith) lt
