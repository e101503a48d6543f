use Rattle.std.proofs.Common.{◌≡◌, ℕ, false, length}
use Rattle.rv_ltl.specs.inner.Reached.{flag_at}
use Rattle.rv_ltl.proofs.uses.all_false.Given as goal

abbrev pub invariant-loop : goal.invariant-loop
invariant-loop l = (length l.flags.items ≡ l.counter) × ((i : ℕ) → flag_at l.flags.items i ≡ false)
