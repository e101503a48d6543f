-- What an instance is doing, with the rows in the place of the letters that reach them.
use Rattle.std.specs.Prelude.{ℕ, reverse}
use Rattle.rv_model.specs.Judging.{Judge}
use Rattle.rv_model.specs.Phases.{Phase, waiting, running, stopped, phase_of, rows_of}
use Rattle.rv_model.specs.Setups.{judge_of, start_of}
use Rattle.rv_core.specs.declared.phase.RowPhase.{RowPhase}
use Rattle.rv_core.specs.declared.phase.RowPhase.TheVariants as by_rows
use Rattle.rv_core.specs.Core.{CoreValue}
use Rattle.rv_core.specs.Setup.{judges_of}

-- of a phase
abbrev pub row_phase : Judge → Phase → RowPhase
row_phase j waiting = by_rows.Waiting
row_phase j (running letters) = by_rows.Running (rows_of j letters)
row_phase j stopped = by_rows.Stopped

-- the phase of a slot of the machine
abbrev pub phase_at : CoreValue → ℕ → Phase
phase_at core slot = phase_of (judge_of core.setup (judges_of core.setup) slot) (start_of core.setup slot) (reverse core.history) slot
