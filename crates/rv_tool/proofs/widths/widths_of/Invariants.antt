use Rattle.rv_tool.proofs.WidthLemmas.{WidthsTo}
use Rattle.rv_tool.proofs.widths.widths_of.Given as goal

-- the widths of the monitors so far
abbrev pub invariant-loop-place : goal.invariant-loop-place
invariant-loop-place l = WidthsTo l.place l.setup.tables l.setup.starts l.widths.items
