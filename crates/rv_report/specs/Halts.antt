-- Where a run was halted (Linux, Documentation/trace/rv, "Reactors"; this project's choice: docs/DECISIONS.md, "A panic ends the run
-- behind its delivery").
use Rattle.std.specs.Prelude.{Bool, false, ◌&&◌, List, find, Option, slice_get}
use Rattle.std.specs.Option.{option_map, option_map_or}
use Rattle.rv_model.specs.declared.record.Record.{Record}
use Rattle.rv_model.specs.Reactors.{is_panic}
use Rattle.rv_model.specs.Records.{is_failure}
use Rattle.rv_model.specs.Reports.{Reported}
use Rattle.rv_report.specs.declared.halt.Halted.{Halted}

-- the record is of a monitor whose reactor is panic
abbrev pub is_of_panic : List Reported → Record → Bool
is_of_panic monitors r = option_map_or (λ m. is_panic m.reactor) (slice_get monitors r.monitor) false

-- the record halts the run: it is a failure of such a monitor, where the turn's look showed reacting on
abbrev pub is_halting : List Reported → Record → Bool
is_halting monitors r = is_failure r && r.reacting && is_of_panic monitors r

-- the record's line and monitor
abbrev pub halted_at : Record → Halted
halted_at r = record { line = r.line; monitor = r.monitor }

-- where the first of the records that halts the run stands, if there is one
abbrev pub halt_of : List Reported → List Record → Option Halted
halt_of monitors rs = option_map halted_at (find (is_halting monitors) rs)
