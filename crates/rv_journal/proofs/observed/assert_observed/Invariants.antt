use Rattle.std.proofs.Common.{take}
use Rattle.std.specs.Prelude.{All}
use Rattle.rv_journal.specs.inner.Merging.{NumbersFit}
use Rattle.rv_journal.proofs.observed.assert_observed.Given as goal

abbrev pub invariant-loop-item : goal.invariant-loop-item
invariant-loop-item l = All NumbersFit (take l.item-index l.item-items)
