use Rattle.std.proofs.Common.{◌≡◌, ◌≤◌, ◌<◌, ℕ, eqb, false, get_or, length, ◌-◌}
use Rattle.rv_text.proofs.bytes.near_byte.Given as goal

abbrev pub invariant-loop-place : goal.invariant-loop-place
invariant-loop-place l = (l.from ≤ l.place) × (l.place ≤ length l.text) × ((k : ℕ) → l.from ≤ k → k < l.place → eqb (get_or l.text k 0) l.byte ≡ false)

abbrev pub decreases-loop-place : goal.decreases-loop-place
decreases-loop-place l = length l.text - l.place
