use Rattle.rv_tool.proofs.WidthLemmas.{width-is}
use Rattle.rv_tool.proofs.widths.width_of.Goals as goal

pub returns : goal.returns
returns c =
    width-is c.args.monitor.now c.args.table.now c.row_count.result c.atom_count.result c.requires.narrow c.requires.table c.assert_states.ensures c.assert_invariant.ensures.rows c.row_count.ensures.rows c.atom_count.ensures
