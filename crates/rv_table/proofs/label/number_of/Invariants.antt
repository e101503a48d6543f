use Rattle.std.proofs.Common.{◌≢◌, ℕ, ◌<◌}
use Rattle.rv_model.specs.Formulas.{ltl}
use Rattle.rv_table.specs.inner.Numbered.{label_at}
use Rattle.rv_table.proofs.label.number_of.Given as goal

abbrev pub invariant-loop-number : goal.invariant-loop-number
invariant-loop-number l = (number : ℕ) → number < l.number → label_at l.labels number ≢ ltl l.label
