-- No mark was added or lost, and the room grows.
use Rattle.std.proofs.Common.{◌≡◌, ℕ, ◌+◌, ◌-◌, false, length, get_or}
use Rattle.rv_report.proofs.tally.reach.Given as goal

abbrev pub invariant-loop-seen : goal.invariant-loop-seen
invariant-loop-seen l = (k : ℕ) → get_or l.seen.items k false ≡ get_or l.fn.seen.items k false

abbrev pub decreases-loop-seen : goal.decreases-loop-seen
decreases-loop-seen l = (l.instance + 1) - length l.seen.items
