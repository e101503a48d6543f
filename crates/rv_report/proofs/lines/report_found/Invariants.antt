-- The reactions so far.
use Rattle.std.proofs.Common.{◌≡◌, take}
use Rattle.std.specs.Prelude.{flat_map, slice_get}
use Rattle.rv_model.specs.Reports.{record_text}
use Rattle.rv_report.specs.Reported.{reported_of}
use Rattle.rv_report.proofs.lines.report_found.Given as goal

abbrev pub invariant-loop-record : goal.invariant-loop-record
invariant-loop-record l = l.out ≡ flat_map (λ r. record_text (slice_get (reported_of l.bindings) r.monitor) l.tasks r) (take l.record-index l.found-inside.printed.items)
