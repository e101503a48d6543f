use Rattle.std.proofs.Common.{◌-◌, ◌≢◌, ◌<◌, ◌≤◌, ℕ, get_or}
use Rattle.rv_trace.proofs.field_names.name_end.Given as goal

abbrev pub invariant-loop-end : goal.invariant-loop-end
invariant-loop-end l = (l.from ≤ l.end) × (l.end ≤ l.to) × ((place : ℕ) → l.from ≤ place → place < l.end → get_or l.fields place 0 ≢ 61)

abbrev pub decreases-loop-end : goal.decreases-loop-end
decreases-loop-end l = l.to - l.end
