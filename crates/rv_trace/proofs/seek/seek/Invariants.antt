use Rattle.std.proofs.Common.{◌≡◌, ◌≤◌, ◌+◌, ◌-◌, ◌||◌, ltb, List, [], ℕ, length, take}
use Rattle.rv_trace.specs.declared.trace.TheConstants.{MAX_BYTES}
use Rattle.rv_trace.specs.Held.{IsPieceOf, LooksAt}
use Rattle.rv_trace.specs.Streams.{Adds, IsPassed}
use Rattle.rv_trace.proofs.seek.seek.Given as goal

abbrev pub invariant-loop-to : goal.invariant-loop-to
invariant-loop-to l =
    LooksAt l.held l.at.from l.at.searched
    × (l.passed + l.at.from ≤ MAX_BYTES)
    × (l.whole ≡ (l.ended || ltb MAX_BYTES (l.passed + length l.held)))
    × ((fed : List ℕ) → IsPieceOf fed l.held l.passed → IsPassed fed l.ended (l.passed + l.fn.start.from) l.fn.start.number →
    Adds (take (l.passed + l.fn.start.from) fed) (take (l.passed + l.at.from) fed) [] × IsPassed fed l.ended (l.passed + l.at.from) l.at.number)

abbrev pub decreases-loop-to : goal.decreases-loop-to
decreases-loop-to l = length l.held - l.at.from
