-- The scripts before the place may end.
use Rattle.std.proofs.Common.{◌<◌, ℕ, get_or}
use Rattle.rv_check.specs.declared.next.Next.TheVariants as next
use Rattle.rv_check.specs.inner.Nexts.{MayEnd}
use Rattle.rv_check.proofs.RunLemmas.{no_work}
use Rattle.rv_check.proofs.run.Run.is_whole.Given as goal

abbrev pub invariant-loop-place : goal.invariant-loop-place
invariant-loop-place l = (k : ℕ) → k < l.place → MayEnd (get_or l.self-inside.works.items k no_work) (get_or l.self-inside.nexts.items k next.Over)
