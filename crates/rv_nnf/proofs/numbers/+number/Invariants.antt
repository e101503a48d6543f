use Rattle.std.proofs.Common.{◌+◌, ◌*◌}
use Rattle.rv_model.specs.Formulas.{ltl}
use Rattle.rv_nnf.proofs.Extents.{extent}
use Rattle.rv_nnf.proofs.numbers.+number.Given as goal

abbrev pub decreases-joined : goal.decreases-joined
decreases-joined l = 3 * (extent (ltl l.f.now) + extent (ltl l.g.now)) + 1

abbrev pub decreases-either : goal.decreases-either
decreases-either l = 3 * (extent (ltl l.f.now) + extent (ltl l.g.now)) + 2

abbrev pub decreases-number : goal.decreases-number
decreases-number l = 3 * extent (ltl l.formula.now)
