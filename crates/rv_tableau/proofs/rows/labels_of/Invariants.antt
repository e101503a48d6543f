use Rattle.std.proofs.Common.{◌≡◌, map}
use Rattle.rv_model.specs.Formulas.{ltl}
use Rattle.rv_nnf.specs.Views.{part_values}
use Rattle.rv_tableau.specs.Rows.{labels_below}
use Rattle.rv_tableau.proofs.rows.labels_of.Given as goal

abbrev pub invariant-loop-k : goal.invariant-loop-k
invariant-loop-k l = map ltl l.out.items ≡ labels_below (part_values l.parts) l.set l.k
