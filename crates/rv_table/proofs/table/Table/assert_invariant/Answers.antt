use Rattle.std.proofs.Common.{subst}
use Rattle.rv_model.specs.Stepping.{IsTable}
use Rattle.rv_table.proofs.RowLemmas.{rows-table}
use Rattle.rv_table.proofs.table.Table.assert_invariant.Goals as goal

pub returns-clause-table : goal.returns-clause-table
returns-clause-table c = subst IsTable c.self.view_is (rows-table _ c.self.invariant)
