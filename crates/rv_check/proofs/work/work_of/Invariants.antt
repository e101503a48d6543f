-- No work before the place is the seat's.
use Rattle.std.proofs.Common.{◌≡◌, ℕ, ◌+◌, ◌<◌, get_or}
use Rattle.rv_model.specs.Works.{Work}
use Rattle.rv_check.proofs.work.work_of.Given as goal

abbrev pub invariant-loop-place : goal.invariant-loop-place
invariant-loop-place l = (k : ℕ) (d : Work) → k < l.place → 2 + (get_or l.works k d).cpu ≡ l.seat → ⊥
