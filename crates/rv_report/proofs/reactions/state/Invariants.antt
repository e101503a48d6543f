-- No state so far has its row in the set.
use Rattle.std.proofs.Common.{◌≡◌, ℕ, ◌+◌, ◌<◌, false}
use Rattle.rv_model.specs.Numbers.{has_bit}
use Rattle.rv_report.proofs.reactions.state.Given as goal

abbrev pub invariant-loop-place : goal.invariant-loop-place
invariant-loop-place l = (j : ℕ) → j < l.place → has_bit l.set (1 + j) ≡ false
