-- The turns before a place were played.
use Rattle.std.proofs.Common.{◌≡◌, ◌-◌, ◌≤◌, length}
use Rattle.rv_feed.specs.Lane.{panics_of}
use Rattle.rv_replay.specs.inner.Walks.{WalkSoFar}
use Rattle.rv_replay.proofs.walk.walk.Given as goal

abbrev pub invariant-loop-from : goal.invariant-loop-from
invariant-loop-from g l = WalkSoFar (g.O.Observer.observed l.context) (panics_of l.reactors) l.fn.core l.core l.list l.ended l.from l.fn.observer l.observer × (l.from ≤ length l.list) × (length l.ended ≡ 64)

abbrev pub decreases-loop-from : goal.decreases-loop-from
decreases-loop-from g l = length l.list - l.from
