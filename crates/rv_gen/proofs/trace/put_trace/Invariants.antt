-- The first lines.
use Rattle.std.proofs.Common.{◌≡◌, ◌++◌, flat_map}
use Rattle.rv_model.specs.Numbers.{list_of}
use Rattle.rv_gen.specs.Generated.{generated_line}
use Rattle.rv_gen.proofs.trace.put_trace.Given as goal

abbrev pub invariant-lines : goal.invariant-lines
invariant-lines l = l.out ≡ l.initial.out ++ flat_map generated_line (list_of (λ i. i) l.i)
