-- What an instance is doing, by the set of rows that its word has.
use Rattle.std.specs.Prelude.{ℕ, ◌==◌, if◌then◌else◌}
use Rattle.rv_core.specs.declared.phase.RowPhase.{RowPhase}
use Rattle.rv_core.specs.declared.phase.RowPhase.TheVariants as by_rows

-- with no row it is stopped, and with row 0 alone it waits
abbrev pub phase_by : ℕ → RowPhase
phase_by set = if set == 0 then by_rows.Stopped else if set == 1 then by_rows.Waiting else by_rows.Running set
