use Rattle.std.proofs.Common.{◌-◌, length}
use Rattle.rv_trace.specs.inner.Naming.{HasWalked}
use Rattle.rv_trace.proofs.field_names.FieldNames.walk.Given as goal

abbrev pub invariant-loop-place : goal.invariant-loop-place
invariant-loop-place l = HasWalked l.fields l.self l.place l.found

abbrev pub decreases-loop-place : goal.decreases-loop-place
decreases-loop-place l = length l.fields - l.place
