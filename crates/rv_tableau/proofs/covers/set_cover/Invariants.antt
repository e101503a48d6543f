use Rattle.std.proofs.Common.{◌≡◌}
use Rattle.rv_nnf.specs.Views.{part_values}
use Rattle.rv_tableau.specs.Cover.{cover_below}
use Rattle.rv_tableau.proofs.covers.set_cover.Given as goal

abbrev pub invariant-loop-k : goal.invariant-loop-k
invariant-loop-k l = l.out.items ≡ cover_below (part_values l.parts) l.set l.k
