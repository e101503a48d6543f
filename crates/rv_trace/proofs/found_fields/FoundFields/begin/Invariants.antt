use Rattle.std.proofs.Common.{◌-◌, length}
use Rattle.rv_trace.specs.inner.Noting.{HasNothing}
use Rattle.rv_trace.specs.FoundFields.{HasNoOther}
use Rattle.rv_trace.proofs.found_fields.FoundFields.begin.Given as goal

abbrev pub invariant-loop-place : goal.invariant-loop-place
invariant-loop-place l = HasNoOther l.self-inside.noted.items l.self-inside.spans.items

abbrev pub decreases-loop-place : goal.decreases-loop-place
decreases-loop-place l = length l.self-inside.noted.items

abbrev pub invariant-loop-self : goal.invariant-loop-self
invariant-loop-self l = HasNothing l.self-inside.spans.items

abbrev pub decreases-loop-self : goal.decreases-loop-self
decreases-loop-self l = l.count - length l.self-inside.spans.items
