use Rattle.std.proofs.Common.{◌≡◌, ◌++◌, length}
use Rattle.rv_ltl.specs.inner.Texts.{texts}
use Rattle.rv_bind.proofs.forms.rest.Given as goal

abbrev pub invariant-loop-word : goal.invariant-loop-word
invariant-loop-word l = texts l.taken.items ++ l.words ≡ l.fn.words

abbrev pub decreases-loop-word : goal.decreases-loop-word
decreases-loop-word l = length l.words
