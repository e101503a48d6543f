use Rattle.std.proofs.Common.{◌≡◌}
use Rattle.rv_core.proofs.OpeningLemmas.{opening_words}
use Rattle.rv_core.proofs.machine.opening_words.Given as goal

abbrev pub invariant-loop-slot : goal.invariant-loop-slot
invariant-loop-slot l = l.words.items ≡ opening_words l.fn.setup l.slot
