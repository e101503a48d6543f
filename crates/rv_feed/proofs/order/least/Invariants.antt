use Rattle.std.proofs.Common.{◌≤◌, ◌^◌, ℕ, List, map}
use Rattle.rv_feed.specs.inner.SoFar.{HasLines}
use Rattle.rv_feed.proofs.LineLemmas.{IsBest}
use Rattle.rv_feed.proofs.order.least.Given as goal

abbrev pub invariant-loop-at : goal.invariant-loop-at
invariant-loop-at g l = (l.best.line ≤ 2 ^ 32) × ((places : List ℕ) → HasLines places l.lines (map g.L.Keeper.lane l.lanes) → IsBest places (map g.L.Keeper.lane l.lanes) l.best.lane l.best.line l.at)
