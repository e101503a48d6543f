-- One item more, and at the end all of them.
use Rattle.std.proofs.Common.{subst, arith}
use Rattle.std.specs.Prelude.{All}
use Rattle.std.proofs.lemmas.List.Elements.{All-more}
use Rattle.rv_journal.specs.inner.Merging.{NumbersFit}
use Rattle.rv_journal.proofs.PendingLemmas.{all-taken}
use Rattle.rv_journal.proofs.observed.assert_observed.Goals as goal

pub loop-item-preserved : goal.loop-item-preserved
loop-item-preserved c = All-more NumbersFit c.items-item-items.result.now c.loop-item.item-index _ (let t = c.loop-item-test.true in omega arith) c.loop-item.invariant c.assert_item.ensures

pub returns-clause-numbers : goal.returns-clause-numbers
returns-clause-numbers c = subst (All NumbersFit) c.items-item-items.ensures (all-taken NumbersFit c.items-item-items.result.now c.loop-item.item-index (let t = c.loop-item-test.false in omega arith) c.loop-item.invariant)
