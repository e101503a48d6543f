use Rattle.std.proofs.Common.{◌≤◌, length, ◌-◌}
use Rattle.rv_trace.proofs.RunLemmas.{AreOf}
use Rattle.rv_trace.proofs.runs.wide_end.Given as goal

abbrev pub invariant-loop-place : goal.invariant-loop-place
invariant-loop-place l = (l.from ≤ l.place) × (l.place ≤ length l.text) × AreOf l.kind l.text l.from l.place

abbrev pub decreases-loop-place : goal.decreases-loop-place
decreases-loop-place l = length l.text - l.place
