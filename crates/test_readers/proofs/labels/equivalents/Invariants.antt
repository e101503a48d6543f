use Rattle.rv_model.specs.Formulas.{ltl}
use Rattle.rv_model.specs.Labels.{IsLabel}
use Rattle.test_readers.proofs.labels.equivalents.Given as goal

abbrev pub invariant-loop : goal.invariant-loop
invariant-loop l = IsLabel (ltl l.made)
