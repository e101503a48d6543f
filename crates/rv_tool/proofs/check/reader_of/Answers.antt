use Rattle.std.proofs.Common.{sym, subst}
use Rattle.rv_check.specs.Beginnings.{FitWorks}
use Rattle.rv_tool.proofs.JudgedLemmas.{works_fit}
use Rattle.rv_tool.proofs.check.reader_of.Goals as goal

pub new-requires : goal.new-requires
new-requires c = subst (FitWorks c.args.setup) (sym c.in_ok-works.ensures) (works_fit c.args.setup c.args.lanes.items c.requires)
