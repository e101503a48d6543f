use Rattle.std.proofs.Common.{◌≡◌}
use Rattle.std.specs.Prelude.{replicate}
use Rattle.rv_check.specs.declared.next.Next.TheVariants.{Look}
use Rattle.rv_check.proofs.run.first_looks.Given as goal

abbrev pub invariant-loop-place : goal.invariant-loop-place
invariant-loop-place l = l.nexts.items ≡ replicate l._place (Look 0)
