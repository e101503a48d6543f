use Rattle.std.proofs.Common.{ℕ, ◌<◌, get_or}
use Rattle.rv_model.specs.Table.{Table}
use Rattle.rv_model.specs.Stepping.{IsTable}
use Rattle.rv_core.proofs.setup.Setup.assert_invariant.Given as goal

abbrev pub invariant-loop-table : goal.invariant-loop-table
invariant-loop-table l = (place : ℕ) (t : Table) → place < l.table-index → IsTable (get_or l.table-items place t)
