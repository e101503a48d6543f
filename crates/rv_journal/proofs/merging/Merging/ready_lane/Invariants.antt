use Rattle.std.proofs.Common.{ℕ, ◌<◌}
use Rattle.std.specs.Prelude.{MatchOption}
use Rattle.rv_journal.specs.inner.MergeRuns.{lane_at, IsReadyAt, CannotGoAt}
use Rattle.rv_journal.proofs.merging.Merging.ready_lane.Given as goal

abbrev pub ghost-is_ready_at : goal.ghost-is_ready_at
ghost-is_ready_at g a = g.seen

-- of the lanes so far none is ready where none was found, and else none of a lower CPU than the one that was
abbrev pub invariant-loop-place : goal.invariant-loop-place
invariant-loop-place g l =
    MatchOption l.lowest ((k : ℕ) → k < l.place → CannotGoAt l.lanes l.self.placed.items l.self.cursors.items k) (λ found.
    IsReadyAt l.lanes l.self.placed.items l.self.cursors.items found
    × ((k : ℕ) → k < l.place → (lane_at l.lanes k).work.cpu < (lane_at l.lanes found).work.cpu → CannotGoAt l.lanes l.self.placed.items l.self.cursors.items k))
