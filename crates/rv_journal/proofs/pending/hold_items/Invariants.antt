use Rattle.std.proofs.Common.{take}
use Rattle.rv_journal.specs.inner.MergePending.{lane_pending, Grown}
use Rattle.rv_journal.proofs.pending.hold_items.Given as goal

abbrev pub invariant-loop-item : goal.invariant-loop-item
invariant-loop-item l = Grown l.initial.waits l.waits (λ g. lane_pending g (take l.item-index l.items))
