-- One item more.
use Rattle.std.proofs.Common.{arith}
use Rattle.rv_journal.proofs.PendingLemmas.{grown-more}
use Rattle.rv_journal.proofs.pending.hold_items.Goals as goal

pub loop-item-preserved : goal.loop-item-preserved
loop-item-preserved c = λ g. grown-more g c.args.items.now c.loop-item.item-index _ _ _ _ (let t = c.loop-item-test.true in omega arith) (c.loop-item.invariant g) (c.in_ok-hold_item.ensures g)
