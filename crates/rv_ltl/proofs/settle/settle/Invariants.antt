use Rattle.std.proofs.Common.{◌≡◌, ◌+◌, ℕ, false, length}
use Rattle.rv_model.specs.Numbers.{one_if}
use Rattle.rv_ltl.specs.declared.weight.Weight.TheVariants.{Open}
use Rattle.rv_ltl.specs.inner.Machine.{defs}
use Rattle.rv_ltl.specs.inner.Weights.{IsSure, IsStuck, open_count, known_count, known_at}
use Rattle.rv_ltl.proofs.settle.settle.Given as goal

abbrev pub invariant-loop : goal.invariant-loop
invariant-loop l = (length l.weights.items ≡ l.counter) × ((i : ℕ) → known_at l.weights.items i ≡ Open)

abbrev pub invariant-loop-goes_on : goal.invariant-loop-goes_on
invariant-loop-goes_on l = record {
  each : length l.weights.items ≡ length l.definitions;
  sure : IsSure (defs l.definitions) l.weights.items (known_count l.weights.items);
  stuck : l.goes_on ≡ false → IsStuck (defs l.definitions) l.weights.items (length l.definitions);
}

abbrev pub decreases-loop-goes_on : goal.decreases-loop-goes_on
decreases-loop-goes_on l = open_count l.weights.items + one_if l.goes_on
