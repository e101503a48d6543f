use Rattle.std.proofs.Common.{◌≡◌, ◌∷◌, length}
use Rattle.rv_bind.specs.Forms.{tests_at}
use Rattle.rv_bind.specs.inner.FormsAhead.{with_tests}
use Rattle.rv_bind.proofs.forms.tests.Given as goal

abbrev pub invariant-loop-next : goal.invariant-loop-next
invariant-loop-next l = tests_at (l.fn.next ∷ l.fn.words) ≡ with_tests l.tests.items (tests_at (l.next ∷ l.words))

abbrev pub decreases-loop-next : goal.decreases-loop-next
decreases-loop-next l = length l.words
