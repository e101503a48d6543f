use Rattle.std.proofs.Common.{◌≡◌, List}
use Rattle.rv_ltl.specs.File.{Def, defs_at}
use Rattle.rv_ltl.specs.inner.Postfix.{AreCodes}
use Rattle.rv_ltl.proofs.FileLaws.{with_front}
use Rattle.rv_ltl.proofs.definitions.definitions.Given as goal

abbrev pub invariant-loop-rest : goal.invariant-loop-rest
invariant-loop-rest l = (front : List Def) × AreCodes front l.out.items × (with_front front (defs_at 256 l.more l.rest) ≡ defs_at 256 256 l.tokens)

abbrev pub decreases-loop-rest : goal.decreases-loop-rest
decreases-loop-rest l = l.more
