use Rattle.std.proofs.Common.{map, take}
use Rattle.rv_model.specs.Formulas.{ltl}
use Rattle.rv_table.specs.inner.Numbered.{AreEntered}
use Rattle.rv_table.proofs.label.enter_all.Given as goal

abbrev pub invariant-loop-label : goal.invariant-loop-label
invariant-loop-label l = AreEntered l.initial.labels.items l.labels.items l.row (map ltl (take l.label-index l.wanted)) l.numbers.items
