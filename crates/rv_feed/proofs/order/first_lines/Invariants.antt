use Rattle.std.proofs.Common.{◌≡◌, length, map, replicate}
use Rattle.rv_feed.proofs.LineLemmas.{HasLinesTo}
use Rattle.rv_feed.proofs.order.first_lines.Given as goal

abbrev pub invariant-loop-at : goal.invariant-loop-at
invariant-loop-at g l = (length l.lines ≡ 64) × HasLinesTo (replicate 64 0) l.lines (map g.L.Keeper.lane l.lanes) l.at
