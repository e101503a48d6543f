-- What an instance is doing, as the rows that a letter is judged from, and comes to.
use Rattle.std.specs.Prelude.{ℕ, ◌+◌, ◌==◌, ◌&&◌, Bool, true, false}
use Rattle.rv_model.specs.declared.automaton.Edge.{Edge}
use Rattle.rv_model.specs.Numbers.{has_bit}
use Rattle.rv_core.specs.declared.phase.RowPhase.{RowPhase}
use Rattle.rv_core.specs.declared.phase.RowPhase.TheVariants as by_rows

-- the rows in which an instance runs, and none where it does not
abbrev pub rows_behind : RowPhase → ℕ
rows_behind by_rows.Waiting = 0
rows_behind (by_rows.Running rows) = rows
rows_behind by_rows.Stopped = 0

-- it runs
abbrev pub runs_behind : RowPhase → Bool
runs_behind by_rows.Waiting = false
runs_behind (by_rows.Running rows) = true
runs_behind by_rows.Stopped = false

-- the rows from which a letter is judged, where those of no letters are these
abbrev pub rows_before : ℕ → RowPhase → ℕ
rows_before start by_rows.Waiting = start
rows_before start (by_rows.Running rows) = rows
rows_before start by_rows.Stopped = 0

-- the edge goes by the event from these rows to those; state k of an automaton has the row k + 1
abbrev pub is_move : Edge → ℕ → ℕ → ℕ → Bool
is_move edge event from to = (event == edge.event) && has_bit from (edge.from + 1) && has_bit to (edge.to + 1)
