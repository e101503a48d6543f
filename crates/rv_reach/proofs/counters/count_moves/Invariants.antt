-- The counts before the place have gone up.
use Rattle.std.proofs.Common.{get_or}
use Rattle.rv_model.specs.declared.automaton.Edge.{Edge}
use Rattle.rv_reach.specs.inner.RowSets.{is_move}
use Rattle.rv_reach.specs.inner.Counters.{CountedTo}
use Rattle.rv_reach.proofs.counters.count_moves.Given as goal

abbrev pub invariant-loop-place : goal.invariant-loop-place
invariant-loop-place l = (none : Edge) → CountedTo (λ k. is_move (get_or l.edges k none) l.event l.from l.to) l.place l.fn.counts.items l.counts.items
