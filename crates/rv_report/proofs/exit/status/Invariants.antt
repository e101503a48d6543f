-- What the records so far come to.
use Rattle.std.proofs.Common.{◌≡◌, take}
use Rattle.rv_model.specs.Records.{status_of}
use Rattle.rv_report.proofs.exit.status.Given as goal

abbrev pub invariant-loop-record : goal.invariant-loop-record
invariant-loop-record l = l.status ≡ status_of (take l.record-index l.records)
