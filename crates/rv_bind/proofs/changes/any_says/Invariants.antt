use Rattle.std.proofs.Common.{◌≡◌, length}
use Rattle.std.specs.List.{list_any}
use Rattle.rv_bind.specs.Changes.{is_signed_name}
use Rattle.rv_ltl.specs.inner.Texts.{texts}
use Rattle.rv_bind.proofs.changes.any_says.Given as goal

abbrev pub invariant-loop-rest : goal.invariant-loop-rest
invariant-loop-rest l = list_any (is_signed_name l.sign l.atom) (texts l.rest) ≡ list_any (is_signed_name l.sign l.atom) (texts l.fn.words)

abbrev pub decreases-loop-rest : goal.decreases-loop-rest
decreases-loop-rest l = length l.rest
