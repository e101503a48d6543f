-- The counts have gone up but for the bits that are left.
use Rattle.std.proofs.Common.{◌+◌}
use Rattle.rv_model.specs.Numbers.{has_bit}
use Rattle.rv_reach.specs.inner.Counters.{CountedBut}
use Rattle.rv_reach.proofs.counters.count_bits.Given as goal

abbrev pub invariant-loop-rest : goal.invariant-loop-rest
invariant-loop-rest l = CountedBut l.rest (λ k. has_bit l.set (k + l.first)) l.fn.counts.items l.counts.items

abbrev pub decreases-loop-rest : goal.decreases-loop-rest
decreases-loop-rest l = l.rest
