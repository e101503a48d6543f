-- A row that the entry names is a row.
use Rattle.std.proofs.Common.{arith, sym}
use Rattle.rv_table.proofs.RowLemmas.{entry-rows}
use Rattle.rv_table.proofs.steps.follow.Goals as goal

pub with-requires : goal.with-requires
with-requires c = let r = entry-rows _ c.requires c.args.row c.args.event c.in-Some.next (sym c.in-Some.ensures) in let few = c.requires.few in omega arith
