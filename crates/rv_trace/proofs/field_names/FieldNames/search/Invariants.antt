use Rattle.rv_trace.specs.inner.Naming.{HasSearched}
use Rattle.rv_trace.proofs.field_names.FieldNames.search.Given as goal

abbrev pub invariant-loop-place : goal.invariant-loop-place
invariant-loop-place l = HasSearched l.fields l.self l.place l.found
