use Rattle.std.proofs.Common.{◌≡◌, ◌<◌, ℕ}
use Rattle.rv_matches.specs.inner.Times.{digit_at}
use Rattle.rv_matches.proofs.times.is_before.Given as goal

abbrev pub invariant-loop-place : goal.invariant-loop-place
invariant-loop-place l = (k : ℕ) → k < l.place → digit_at l.one k ≡ digit_at l.other k
